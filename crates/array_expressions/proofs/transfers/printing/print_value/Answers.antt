use Rattle.std.proofs.Common.{sym, ap, ◌∙◌, Some}
use Rattle.tree.specs.View.{expression_of}
use Rattle.meaning.specs.Dialect.{fortran90}
use Rattle.meaning.specs.Texts.{output_text}
use Rattle.meaning.specs.Value.{is_scalar, item_values, all_elements}
use Rattle.meaning.specs.Run.{writes}
use Rattle.machine.proofs.Telling.{kept}
use Rattle.array_values.specs.storage.Stored.{store_in}
use Rattle.array_expressions.specs.assignments.Moments.{seen}
use Rattle.array_expressions.specs.transfers.Printing.{one_value}
use Rattle.array_expressions.specs.transfers.Unfinished.{ended_by}
use Rattle.array_expressions.proofs.transfers.Lacking.{Runs-asks}
use Rattle.array_expressions.proofs.transfers.Printed.{scalar_item, array_item}
use Rattle.array_expressions.proofs.transfers.printing.print_value.Goals as goal

pub returns-then-is_scalar-clause-run : goal.returns-then-is_scalar-clause-run
returns-then-is_scalar-clause-run g c = λ input.
    let e = expression_of c.args.expr.now in
    let s = store_in c.args.moment.now.storage in
    let m = seen c.args.moment.now in
    (Runs-asks c.args.line (one_value c.args.width e) (item_values (fortran90 c.args.width) e) (λ vs limit. writes (output_text vs)) input m m (g.K.Sink.taken c.args.out.now) (g.K.Sink.taken c.print_scalar.new.out) (ended_by c.print_scalar.result)
    (scalar_item c.args.width s e (ap (λ st. is_scalar e (store_in st).bounds) (sym c.scope.ensures) ∙ sym c.is_scalar.ensures ∙ c.if-is_scalar.true))
    (c.print_scalar.ensures.run input))

pub returns-then-is_scalar-clause-told : goal.returns-then-is_scalar-clause-told
returns-then-is_scalar-clause-told g c = λ input bytes.
    let e = expression_of c.args.expr.now in
    let s = store_in c.args.moment.now.storage in
    let m = seen c.args.moment.now in
    let k = c.print_scalar.ensures.told input bytes in
    kept k
    (Runs-asks c.args.line (one_value c.args.width e) (item_values (fortran90 c.args.width) e) (λ vs limit. writes (output_text vs)) input m m (Some bytes) (Some k.after) (ended_by c.print_scalar.result)
    (scalar_item c.args.width s e (ap (λ st. is_scalar e (store_in st).bounds) (sym c.scope.ensures) ∙ sym c.is_scalar.ensures ∙ c.if-is_scalar.true))
    k.does)

pub returns-clause-run : goal.returns-clause-run
returns-clause-run g c = λ input.
    let e = expression_of c.args.expr.now in
    let s = store_in c.args.moment.now.storage in
    let m = seen c.args.moment.now in
    (Runs-asks c.args.line (all_elements (fortran90 c.args.width) e) (item_values (fortran90 c.args.width) e) (λ vs limit. writes (output_text vs)) input m m (g.K.Sink.taken c.args.out.now) (g.K.Sink.taken c.print_array.new.out) (ended_by c.print_array.result)
    (array_item c.args.width s e (ap (λ st. is_scalar e (store_in st).bounds) (sym c.scope.ensures) ∙ sym c.is_scalar.ensures ∙ c.if-is_scalar.false))
    (c.print_array.ensures.run input))

pub returns-clause-told : goal.returns-clause-told
returns-clause-told g c = λ input bytes.
    let e = expression_of c.args.expr.now in
    let s = store_in c.args.moment.now.storage in
    let m = seen c.args.moment.now in
    let k = c.print_array.ensures.told input bytes in
    kept k
    (Runs-asks c.args.line (all_elements (fortran90 c.args.width) e) (item_values (fortran90 c.args.width) e) (λ vs limit. writes (output_text vs)) input m m (Some bytes) (Some k.after) (ended_by c.print_array.result)
    (array_item c.args.width s e (ap (λ st. is_scalar e (store_in st).bounds) (sym c.scope.ensures) ∙ sym c.is_scalar.ensures ∙ c.if-is_scalar.false))
    k.does)
