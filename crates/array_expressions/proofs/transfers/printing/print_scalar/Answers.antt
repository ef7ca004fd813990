use Rattle.std.proofs.Common.{sym, ◌∙◌, subst, [], ◌∷◌, ◌++◌, Ok, Err, Some}
use Rattle.tree.specs.View.{expression_of}
use Rattle.tree.specs.declared.ops.Value.{Value}
use Rattle.meaning.specs.Dialect.{fortran90}
use Rattle.meaning.specs.Texts.{output_text}
use Rattle.meaning.specs.Value.{value_of}
use Rattle.meaning.specs.Run.{writes}
use Rattle.machine.specs.declared.progress.Left.TheVariants.{Unwritten}
use Rattle.machine.proofs.Residuals.{residual}
use Rattle.machine.proofs.WriteLaws.{Runs-writes, one_written}
use Rattle.machine.proofs.Telling.{still, given, taken_whole, one_output}
use Rattle.array_values.specs.storage.Stored.{store_in}
use Rattle.array_values.specs.Answers.{Answers}
use Rattle.array_expressions.specs.assignments.Moments.{seen}
use Rattle.array_expressions.proofs.assignments.Lacking.{asked, Runs-stuck, Runs-answers}
use Rattle.array_expressions.specs.transfers.Printing.{one_value, prints_scalar}
use Rattle.array_expressions.proofs.transfers.Lacking.{Extends-written, left_so, no_write}
use Rattle.array_expressions.proofs.transfers.Printed.{value_answered}
use Rattle.array_expressions.proofs.transfers.printing.print_scalar.Goals as goal

pub returns-in_err-value-clause-run : goal.returns-in_err-value-clause-run
returns-in_err-value-clause-run g c = λ input.
    let line = c.args.line in
    let e = expression_of c.args.expr.now in
    let s = store_in c.args.moment.now.storage in
    let m = seen c.args.moment.now in
    (rw (residual c.from_residual.ensures.1)
    (left_so (λ limit. prints_scalar c.args.width line e) input m m (g.K.Sink.taken c.args.out.now) (g.K.Sink.taken c.args.out.now) c.in_err-value.field-0.0
    (Runs-stuck line (λ (v : Value). v ∷ []) (one_value c.args.width e) (λ vs limit. writes (output_text vs)) input m c.in_err-value.field-0.0 (g.K.Sink.taken c.args.out.now)
    (asked line (λ (v : Value). v ∷ []) (one_value c.args.width e s) c.value.result _ (sym c.in_err-value.was ∙ c.at.ensures) (value_answered c.args.width e s c.value.result (subst (λ st. Answers (λ (v : Value). v) (value_of (fortran90 c.args.width) e (store_in st)) c.value.result) c.scope.ensures c.value.ensures)))
    (Extends-written line (one_value c.args.width e)))))

pub returns-in_err-value-clause-told : goal.returns-in_err-value-clause-told
returns-in_err-value-clause-told g c = λ input bytes.
    let line = c.args.line in
    let e = expression_of c.args.expr.now in
    let s = store_in c.args.moment.now.storage in
    let m = seen c.args.moment.now in
    still _ bytes
    (rw (residual c.from_residual.ensures.1)
    (left_so (λ limit. prints_scalar c.args.width line e) input m m (Some bytes) (Some bytes) c.in_err-value.field-0.0
    (Runs-stuck line (λ (v : Value). v ∷ []) (one_value c.args.width e) (λ vs limit. writes (output_text vs)) input m c.in_err-value.field-0.0 (Some bytes)
    (asked line (λ (v : Value). v ∷ []) (one_value c.args.width e s) c.value.result _ (sym c.in_err-value.was ∙ c.at.ensures) (value_answered c.args.width e s c.value.result (subst (λ st. Answers (λ (v : Value). v) (value_of (fortran90 c.args.width) e (store_in st)) c.value.result) c.scope.ensures c.value.ensures)))
    (Extends-written line (one_value c.args.width e)))))

pub returns-in_err-value-clause-fault : goal.returns-in_err-value-clause-fault
returns-in_err-value-clause-fault g c = λ e. absurd (no_write _ c.in_err-value.field-0.0 (residual c.from_residual.ensures.1) e)

pub returns-in_err-write_output-clause-run : goal.returns-in_err-write_output-clause-run
returns-in_err-write_output-clause-run g c = λ input.
    let line = c.args.line in
    let e = expression_of c.args.expr.now in
    let s = store_in c.args.moment.now.storage in
    let m = seen c.args.moment.now in
    (rw (residual c.from_residual-in_err-write_output.ensures.1)
    (Runs-answers line (λ (v : Value). v ∷ []) (one_value c.args.width e) (λ vs limit. writes (output_text vs)) input m c.in_ok-value.value m (g.K.Sink.taken c.args.out.now) (g.K.Sink.taken c.write_output.new.out) (Err Unwritten)
    (asked line (λ (v : Value). v ∷ []) (one_value c.args.width e s) c.value.result _ (sym c.in_ok-value.was ∙ c.at.ensures) (value_answered c.args.width e s c.value.result (subst (λ st. Answers (λ (v : Value). v) (value_of (fortran90 c.args.width) e (store_in st)) c.value.result) c.scope.ensures c.value.ensures)))
    (Runs-writes (output_text (c.in_ok-value.value ∷ [])) input m (g.K.Sink.taken c.args.out.now) (g.K.Sink.taken c.write_output.new.out) (Err c.in_err-write_output.field-0.0) (one_written c.in_ok-value.value (g.K.Sink.taken c.args.out.now) (g.K.Sink.taken c.write_output.new.out) (Err c.in_err-write_output.field-0.0) c.in_err-write_output.ensures.text))))

pub returns-in_err-write_output-clause-told : goal.returns-in_err-write_output-clause-told
returns-in_err-write_output-clause-told g c = λ input bytes.
    let line = c.args.line in
    let e = expression_of c.args.expr.now in
    let s = store_in c.args.moment.now.storage in
    let m = seen c.args.moment.now in
    given (output_text (c.in_ok-value.value ∷ [])) bytes (λ x. absurd (one_output _ x))
    (rw (residual c.from_residual-in_err-write_output.ensures.1)
    (Runs-answers line (λ (v : Value). v ∷ []) (one_value c.args.width e) (λ vs limit. writes (output_text vs)) input m c.in_ok-value.value m (Some bytes) (Some (bytes ++ output_text (c.in_ok-value.value ∷ []))) (Err Unwritten)
    (asked line (λ (v : Value). v ∷ []) (one_value c.args.width e s) c.value.result _ (sym c.in_ok-value.was ∙ c.at.ensures) (value_answered c.args.width e s c.value.result (subst (λ st. Answers (λ (v : Value). v) (value_of (fortran90 c.args.width) e (store_in st)) c.value.result) c.scope.ensures c.value.ensures)))
    (Runs-writes (output_text (c.in_ok-value.value ∷ [])) input m (Some bytes) (Some (bytes ++ output_text (c.in_ok-value.value ∷ []))) (Err c.in_err-write_output.field-0.0) (taken_whole (output_text (c.in_ok-value.value ∷ [])) bytes (Err c.in_err-write_output.field-0.0)))))

pub returns-clause-run : goal.returns-clause-run
returns-clause-run g c = λ input.
    let line = c.args.line in
    let e = expression_of c.args.expr.now in
    let s = store_in c.args.moment.now.storage in
    let m = seen c.args.moment.now in
    (Runs-answers line (λ (v : Value). v ∷ []) (one_value c.args.width e) (λ vs limit. writes (output_text vs)) input m c.in_ok-value.value m (g.K.Sink.taken c.args.out.now) (g.K.Sink.taken c.write_output.new.out) (Ok tt)
    (asked line (λ (v : Value). v ∷ []) (one_value c.args.width e s) c.value.result _ (sym c.in_ok-value.was ∙ c.at.ensures) (value_answered c.args.width e s c.value.result (subst (λ st. Answers (λ (v : Value). v) (value_of (fortran90 c.args.width) e (store_in st)) c.value.result) c.scope.ensures c.value.ensures)))
    (Runs-writes (output_text (c.in_ok-value.value ∷ [])) input m (g.K.Sink.taken c.args.out.now) (g.K.Sink.taken c.write_output.new.out) (Ok tt) (one_written c.in_ok-value.value (g.K.Sink.taken c.args.out.now) (g.K.Sink.taken c.write_output.new.out) (Ok tt) c.in_ok-write_output.ensures.text)))

pub returns-clause-told : goal.returns-clause-told
returns-clause-told g c = λ input bytes.
    let line = c.args.line in
    let e = expression_of c.args.expr.now in
    let s = store_in c.args.moment.now.storage in
    let m = seen c.args.moment.now in
    given (output_text (c.in_ok-value.value ∷ [])) bytes (λ x. absurd (one_output _ x))
    (Runs-answers line (λ (v : Value). v ∷ []) (one_value c.args.width e) (λ vs limit. writes (output_text vs)) input m c.in_ok-value.value m (Some bytes) (Some (bytes ++ output_text (c.in_ok-value.value ∷ []))) (Ok tt)
    (asked line (λ (v : Value). v ∷ []) (one_value c.args.width e s) c.value.result _ (sym c.in_ok-value.was ∙ c.at.ensures) (value_answered c.args.width e s c.value.result (subst (λ st. Answers (λ (v : Value). v) (value_of (fortran90 c.args.width) e (store_in st)) c.value.result) c.scope.ensures c.value.ensures)))
    (Runs-writes (output_text (c.in_ok-value.value ∷ [])) input m (Some bytes) (Some (bytes ++ output_text (c.in_ok-value.value ∷ []))) (Ok tt) (taken_whole (output_text (c.in_ok-value.value ∷ [])) bytes (Ok tt))))
