use Rattle.std.proofs.Common.{sym, ap, ◌∙◌, subst, ◌++◌, List, length, Result, Ok, Err, Some}
use Rattle.tree.specs.View.{expression_of}
use Rattle.tree.specs.declared.ops.Value.{Value}
use Rattle.meaning.specs.Dialect.{fortran90}
use Rattle.meaning.specs.Texts.{output_text}
use Rattle.meaning.specs.Value.{all_elements}
use Rattle.meaning.specs.Run.{writes}
use Rattle.std.specs.Prelude.{◌==◌}
use Rattle.streams.specs.declared.errors.WriteFault.{WriteFault}
use Rattle.machine.specs.Texts.{WritesText}
use Rattle.machine.specs.declared.progress.Left.TheVariants.{Unwritten}
use Rattle.machine.proofs.Residuals.{residual}
use Rattle.machine.proofs.WriteLaws.{Runs-writes}
use Rattle.machine.proofs.Telling.{still, given, taken_whole, some_output, no_values, values_there, no_output}
use Rattle.array_values.specs.storage.Stored.{store_in}
use Rattle.array_values.specs.declared.known.Known.{Known}
use Rattle.array_values.specs.Answers.{Answers}
use Rattle.array_values.specs.Arrays.{array_in}
use Rattle.array_expressions.specs.Scopes.{whole_of}
use Rattle.array_expressions.specs.assignments.Moments.{seen}
use Rattle.array_expressions.proofs.assignments.Lacking.{asked, Runs-stuck, Runs-answers}
use Rattle.array_expressions.specs.transfers.Printing.{prints_array}
use Rattle.array_expressions.proofs.transfers.Lacking.{Extends-written, left_so, no_write}
use Rattle.array_expressions.proofs.transfers.Printed.{elements_answered}
use Rattle.array_expressions.proofs.transfers.printing.print_array.Goals as goal

pub returns-in_err-known-clause-run : goal.returns-in_err-known-clause-run
returns-in_err-known-clause-run g c = λ input.
    let line = c.args.line in
    let e = expression_of c.args.expr.now in
    let s = store_in c.args.moment.now.storage in
    let m = seen c.args.moment.now in
    (rw (residual c.from_residual.ensures.1)
    (left_so (λ limit. prints_array c.args.width line e) input m m (g.K.Sink.taken c.args.out.now) (g.K.Sink.taken c.args.out.now) c.in_err-known.field-0.0
    (Runs-stuck line (λ (k : Known). k.values) (all_elements (fortran90 c.args.width) e) (λ vs limit. writes (output_text vs)) input m c.in_err-known.field-0.0 (g.K.Sink.taken c.args.out.now)
    (asked line (λ (k : Known). k.values) (all_elements (fortran90 c.args.width) e s) c.in_whole.result _ (sym c.in_err-known.was ∙ c.at.ensures) (elements_answered c.args.width e s c.in_whole.result (subst (λ st. Answers array_in (whole_of c.args.width e (store_in st)) c.in_whole.result) c.scope.ensures c.in_whole.ensures)))
    (Extends-written line (all_elements (fortran90 c.args.width) e)))))

pub returns-in_err-known-clause-told : goal.returns-in_err-known-clause-told
returns-in_err-known-clause-told g c = λ input bytes.
    let line = c.args.line in
    let e = expression_of c.args.expr.now in
    let s = store_in c.args.moment.now.storage in
    let m = seen c.args.moment.now in
    still _ bytes
    (rw (residual c.from_residual.ensures.1)
    (left_so (λ limit. prints_array c.args.width line e) input m m (Some bytes) (Some bytes) c.in_err-known.field-0.0
    (Runs-stuck line (λ (k : Known). k.values) (all_elements (fortran90 c.args.width) e) (λ vs limit. writes (output_text vs)) input m c.in_err-known.field-0.0 (Some bytes)
    (asked line (λ (k : Known). k.values) (all_elements (fortran90 c.args.width) e s) c.in_whole.result _ (sym c.in_err-known.was ∙ c.at.ensures) (elements_answered c.args.width e s c.in_whole.result (subst (λ st. Answers array_in (whole_of c.args.width e (store_in st)) c.in_whole.result) c.scope.ensures c.in_whole.ensures)))
    (Extends-written line (all_elements (fortran90 c.args.width) e)))))

pub returns-in_err-known-clause-fault : goal.returns-in_err-known-clause-fault
returns-in_err-known-clause-fault g c = λ e. absurd (no_write _ c.in_err-known.field-0.0 (residual c.from_residual.ensures.1) e)

pub returns-then-is_empty-clause-run : goal.returns-then-is_empty-clause-run
returns-then-is_empty-clause-run g c = λ input.
    let line = c.args.line in
    let e = expression_of c.args.expr.now in
    let s = store_in c.args.moment.now.storage in
    let m = seen c.args.moment.now in
    let none = no_values c.in_ok-known.known.values c.is_empty.result (c.is_empty.ensures ∙ ap (λ (xs : List Value). length xs == 0) c.as_slice-values.ensures) c.if-is_empty.true in
    (Runs-answers line (λ (k : Known). k.values) (all_elements (fortran90 c.args.width) e) (λ vs limit. writes (output_text vs)) input m c.in_ok-known.known m (g.K.Sink.taken c.args.out.now) (g.K.Sink.taken c.args.out.now) (Ok tt)
    (asked line (λ (k : Known). k.values) (all_elements (fortran90 c.args.width) e s) c.in_whole.result _ (sym c.in_ok-known.was ∙ c.at.ensures) (elements_answered c.args.width e s c.in_whole.result (subst (λ st. Answers array_in (whole_of c.args.width e (store_in st)) c.in_whole.result) c.scope.ensures c.in_whole.ensures)))
    (Runs-writes (output_text c.in_ok-known.known.values) input m (g.K.Sink.taken c.args.out.now) (g.K.Sink.taken c.args.out.now) (Ok tt) (no_output c.in_ok-known.known.values (g.K.Sink.taken c.args.out.now) none)))

pub returns-then-is_empty-clause-told : goal.returns-then-is_empty-clause-told
returns-then-is_empty-clause-told g c = λ input bytes.
    let line = c.args.line in
    let e = expression_of c.args.expr.now in
    let s = store_in c.args.moment.now.storage in
    let m = seen c.args.moment.now in
    let none = no_values c.in_ok-known.known.values c.is_empty.result (c.is_empty.ensures ∙ ap (λ (xs : List Value). length xs == 0) c.as_slice-values.ensures) c.if-is_empty.true in
    still _ bytes
    (Runs-answers line (λ (k : Known). k.values) (all_elements (fortran90 c.args.width) e) (λ vs limit. writes (output_text vs)) input m c.in_ok-known.known m (Some bytes) (Some bytes) (Ok tt)
    (asked line (λ (k : Known). k.values) (all_elements (fortran90 c.args.width) e s) c.in_whole.result _ (sym c.in_ok-known.was ∙ c.at.ensures) (elements_answered c.args.width e s c.in_whole.result (subst (λ st. Answers array_in (whole_of c.args.width e (store_in st)) c.in_whole.result) c.scope.ensures c.in_whole.ensures)))
    (Runs-writes (output_text c.in_ok-known.known.values) input m (Some bytes) (Some bytes) (Ok tt) (no_output c.in_ok-known.known.values (Some bytes) none)))

pub returns-in_err-write_outputs-clause-run : goal.returns-in_err-write_outputs-clause-run
returns-in_err-write_outputs-clause-run g c = λ input.
    let line = c.args.line in
    let e = expression_of c.args.expr.now in
    let s = store_in c.args.moment.now.storage in
    let m = seen c.args.moment.now in
    (rw (residual c.from_residual-in_err-write_outputs.ensures.1)
    (Runs-answers line (λ (k : Known). k.values) (all_elements (fortran90 c.args.width) e) (λ vs limit. writes (output_text vs)) input m c.in_ok-known.known m (g.K.Sink.taken c.args.out.now) (g.K.Sink.taken c.write_outputs.new.out) (Err Unwritten)
    (asked line (λ (k : Known). k.values) (all_elements (fortran90 c.args.width) e s) c.in_whole.result _ (sym c.in_ok-known.was ∙ c.at.ensures) (elements_answered c.args.width e s c.in_whole.result (subst (λ st. Answers array_in (whole_of c.args.width e (store_in st)) c.in_whole.result) c.scope.ensures c.in_whole.ensures)))
    (Runs-writes (output_text c.in_ok-known.known.values) input m (g.K.Sink.taken c.args.out.now) (g.K.Sink.taken c.write_outputs.new.out) (Err c.in_err-write_outputs.field-0.0) (subst (λ (xs : List Value). WritesText (g.K.Sink.taken c.args.out.now) (output_text xs) (g.K.Sink.taken c.write_outputs.new.out) (let r : Result (Unit {0}) WriteFault = (Err c.in_err-write_outputs.field-0.0) in r)) c.as_slice-values.ensures c.in_err-write_outputs.ensures.text))))

pub returns-in_err-write_outputs-clause-told : goal.returns-in_err-write_outputs-clause-told
returns-in_err-write_outputs-clause-told g c = λ input bytes.
    let line = c.args.line in
    let e = expression_of c.args.expr.now in
    let s = store_in c.args.moment.now.storage in
    let m = seen c.args.moment.now in
    given (output_text c.in_ok-known.known.values) bytes (λ x. absurd (some_output c.in_ok-known.known.values (values_there c.in_ok-known.known.values c.is_empty.result (c.is_empty.ensures ∙ ap (λ (xs : List Value). length xs == 0) c.as_slice-values.ensures) c.if-is_empty.false) x))
    (rw (residual c.from_residual-in_err-write_outputs.ensures.1)
    (Runs-answers line (λ (k : Known). k.values) (all_elements (fortran90 c.args.width) e) (λ vs limit. writes (output_text vs)) input m c.in_ok-known.known m (Some bytes) (Some (bytes ++ output_text c.in_ok-known.known.values)) (Err Unwritten)
    (asked line (λ (k : Known). k.values) (all_elements (fortran90 c.args.width) e s) c.in_whole.result _ (sym c.in_ok-known.was ∙ c.at.ensures) (elements_answered c.args.width e s c.in_whole.result (subst (λ st. Answers array_in (whole_of c.args.width e (store_in st)) c.in_whole.result) c.scope.ensures c.in_whole.ensures)))
    (Runs-writes (output_text c.in_ok-known.known.values) input m (Some bytes) (Some (bytes ++ output_text c.in_ok-known.known.values)) (Err c.in_err-write_outputs.field-0.0) (taken_whole (output_text c.in_ok-known.known.values) bytes (Err c.in_err-write_outputs.field-0.0)))))

pub returns-clause-run : goal.returns-clause-run
returns-clause-run g c = λ input.
    let line = c.args.line in
    let e = expression_of c.args.expr.now in
    let s = store_in c.args.moment.now.storage in
    let m = seen c.args.moment.now in
    (Runs-answers line (λ (k : Known). k.values) (all_elements (fortran90 c.args.width) e) (λ vs limit. writes (output_text vs)) input m c.in_ok-known.known m (g.K.Sink.taken c.args.out.now) (g.K.Sink.taken c.write_outputs.new.out) (Ok tt)
    (asked line (λ (k : Known). k.values) (all_elements (fortran90 c.args.width) e s) c.in_whole.result _ (sym c.in_ok-known.was ∙ c.at.ensures) (elements_answered c.args.width e s c.in_whole.result (subst (λ st. Answers array_in (whole_of c.args.width e (store_in st)) c.in_whole.result) c.scope.ensures c.in_whole.ensures)))
    (Runs-writes (output_text c.in_ok-known.known.values) input m (g.K.Sink.taken c.args.out.now) (g.K.Sink.taken c.write_outputs.new.out) (Ok tt) (subst (λ (xs : List Value). WritesText (g.K.Sink.taken c.args.out.now) (output_text xs) (g.K.Sink.taken c.write_outputs.new.out) (let r : Result (Unit {0}) WriteFault = (Ok tt) in r)) c.as_slice-values.ensures c.in_ok-write_outputs.ensures.text)))

pub returns-clause-told : goal.returns-clause-told
returns-clause-told g c = λ input bytes.
    let line = c.args.line in
    let e = expression_of c.args.expr.now in
    let s = store_in c.args.moment.now.storage in
    let m = seen c.args.moment.now in
    given (output_text c.in_ok-known.known.values) bytes (λ x. absurd (some_output c.in_ok-known.known.values (values_there c.in_ok-known.known.values c.is_empty.result (c.is_empty.ensures ∙ ap (λ (xs : List Value). length xs == 0) c.as_slice-values.ensures) c.if-is_empty.false) x))
    (Runs-answers line (λ (k : Known). k.values) (all_elements (fortran90 c.args.width) e) (λ vs limit. writes (output_text vs)) input m c.in_ok-known.known m (Some bytes) (Some (bytes ++ output_text c.in_ok-known.known.values)) (Ok tt)
    (asked line (λ (k : Known). k.values) (all_elements (fortran90 c.args.width) e s) c.in_whole.result _ (sym c.in_ok-known.was ∙ c.at.ensures) (elements_answered c.args.width e s c.in_whole.result (subst (λ st. Answers array_in (whole_of c.args.width e (store_in st)) c.in_whole.result) c.scope.ensures c.in_whole.ensures)))
    (Runs-writes (output_text c.in_ok-known.known.values) input m (Some bytes) (Some (bytes ++ output_text c.in_ok-known.known.values)) (Ok tt) (taken_whole (output_text c.in_ok-known.known.values) bytes (Ok tt))))
