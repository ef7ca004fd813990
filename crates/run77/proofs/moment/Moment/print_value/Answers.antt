use Rattle.std.proofs.Common.{sym, ap, ◌∙◌, [], ◌∷◌, ◌++◌, Ok, Err, Some}
use Rattle.tree.specs.View.{expression_of}
use Rattle.meaning.specs.Dialect.{fortran77}
use Rattle.meaning.specs.Value.{value_of}
use Rattle.machine.specs.Moments.{located}
use Rattle.machine.specs.Stored.{store_in}
use Rattle.machine.specs.Stored.{all_values}
use Rattle.run77.specs.Printing.{IsOneValue, AreAllValues}
use Rattle.machine.proofs.Residuals.{residual}
use Rattle.machine.proofs.WriteLaws.{prints_values, prints_fault, one_written}
use Rattle.run77.proofs.ItemLaws.{all_fault, all_ok, one_fault, one_ok}
use Rattle.meaning.specs.Texts.{output_text}
use Rattle.run77.specs.Moments.{seen}
use Rattle.machine.proofs.Telling.{still, given, taken_whole, some_output, one_output, no_values, values_there, no_output}
use Rattle.meaning.proofs.Widths.{same_value}
use Rattle.run77.proofs.moment.Moment.print_value.Goals as goal

pub returns-in_err-values-in-Some-clause-run : goal.returns-in_err-values-in-Some-clause-run
unfolding AreAllValues
returns-in_err-values-in-Some-clause-run g c = λ w input.
    let s = store_in c.args.self.now.storage in
    rw (residual c.from_residual.ensures.1)
    (prints_fault (fortran77 w) c.args.line (expression_of c.args.expr.now) input (seen c.args.self.now) (g.K.Sink.taken c.args.out.now) (g.K.Sink.taken c.args.out.now) c.in_err-values-in-Some.field-0.0
    (all_fault c.args.line (all_values c.in-Some.name s) c.all.result c.in_err-values-in-Some.field-0.0 c.all.ensures (sym c.in_err-values-in-Some.was ∙ c.at.ensures)
    ∙ sym (ap (located c.args.line) (c.in-Some.ensures w s))))

pub returns-in_err-write_outputs-in-Some-clause-run : goal.returns-in_err-write_outputs-in-Some-clause-run
unfolding AreAllValues
returns-in_err-write_outputs-in-Some-clause-run g c = λ w input.
    let s = store_in c.args.self.now.storage in
    rw (residual c.from_residual-in_err-write_outputs-in-Some.ensures.1)
    (prints_values (fortran77 w) c.args.line (expression_of c.args.expr.now) input (seen c.args.self.now) (g.K.Sink.taken c.args.out.now) (g.K.Sink.taken c.write_outputs.new.out) c.in_ok-values-in-Some.values.now (Err c.in_err-write_outputs-in-Some.field-0.0)
    (all_ok c.args.line (all_values c.in-Some.name s) c.all.result c.in_ok-values-in-Some.values c.all.ensures (sym c.in_ok-values-in-Some.was ∙ c.at.ensures)
    ∙ sym (ap (located c.args.line) (c.in-Some.ensures w s)))
    c.in_err-write_outputs-in-Some.ensures.text)

pub returns-in_ok-write_outputs-in-Some-clause-run : goal.returns-in_ok-write_outputs-in-Some-clause-run
unfolding AreAllValues
returns-in_ok-write_outputs-in-Some-clause-run g c = λ w input.
    let s = store_in c.args.self.now.storage in
    prints_values (fortran77 w) c.args.line (expression_of c.args.expr.now) input (seen c.args.self.now) (g.K.Sink.taken c.args.out.now) (g.K.Sink.taken c.write_outputs.new.out) c.in_ok-values-in-Some.values.now (Ok tt)
    (all_ok c.args.line (all_values c.in-Some.name s) c.all.result c.in_ok-values-in-Some.values c.all.ensures (sym c.in_ok-values-in-Some.was ∙ c.at.ensures)
    ∙ sym (ap (located c.args.line) (c.in-Some.ensures w s)))
    c.in_ok-write_outputs-in-Some.ensures.text

pub returns-in_err-value-in-None-clause-run : goal.returns-in_err-value-in-None-clause-run
unfolding IsOneValue
returns-in_err-value-in-None-clause-run g c = λ w input.
    let s = store_in c.args.self.now.storage in
    rw (residual c.from_residual-in_err-value-in-None.ensures.1)
    (prints_fault (fortran77 w) c.args.line (expression_of c.args.expr.now) input (seen c.args.self.now) (g.K.Sink.taken c.args.out.now) (g.K.Sink.taken c.args.out.now) c.in_err-value-in-None.field-0.0
    (one_fault c.args.line (value_of (fortran77 w) (expression_of c.args.expr.now) s) c.in_err-value-in-None.field-0.0 (sym c.in_err-value-in-None.was ∙ c.at-in-None.ensures ∙ ap (located c.args.line) (c.value.ensures ∙ sym (same_value w (expression_of c.args.expr.now) s)))
    ∙ sym (ap (located c.args.line) (c.in-None.ensures w s))))

pub returns-in_err-write_output-in-None-clause-run : goal.returns-in_err-write_output-in-None-clause-run
unfolding IsOneValue
returns-in_err-write_output-in-None-clause-run g c = λ w input.
    let s = store_in c.args.self.now.storage in
    rw (residual c.from_residual-in_err-write_output-in-None.ensures.1)
    (prints_values (fortran77 w) c.args.line (expression_of c.args.expr.now) input (seen c.args.self.now) (g.K.Sink.taken c.args.out.now) (g.K.Sink.taken c.write_output.new.out) (c.in_ok-value-in-None.value ∷ []) (Err c.in_err-write_output-in-None.field-0.0)
    (one_ok c.args.line (value_of (fortran77 w) (expression_of c.args.expr.now) s) c.in_ok-value-in-None.value (sym c.in_ok-value-in-None.was ∙ c.at-in-None.ensures ∙ ap (located c.args.line) (c.value.ensures ∙ sym (same_value w (expression_of c.args.expr.now) s)))
    ∙ sym (ap (located c.args.line) (c.in-None.ensures w s)))
    (one_written c.in_ok-value-in-None.value (g.K.Sink.taken c.args.out.now) (g.K.Sink.taken c.write_output.new.out) (Err c.in_err-write_output-in-None.field-0.0) c.in_err-write_output-in-None.ensures.text))

pub returns-in_ok-write_output-in-None-clause-run : goal.returns-in_ok-write_output-in-None-clause-run
unfolding IsOneValue
returns-in_ok-write_output-in-None-clause-run g c = λ w input.
    let s = store_in c.args.self.now.storage in
    prints_values (fortran77 w) c.args.line (expression_of c.args.expr.now) input (seen c.args.self.now) (g.K.Sink.taken c.args.out.now) (g.K.Sink.taken c.write_output.new.out) (c.in_ok-value-in-None.value ∷ []) (Ok tt)
    (one_ok c.args.line (value_of (fortran77 w) (expression_of c.args.expr.now) s) c.in_ok-value-in-None.value (sym c.in_ok-value-in-None.was ∙ c.at-in-None.ensures ∙ ap (located c.args.line) (c.value.ensures ∙ sym (same_value w (expression_of c.args.expr.now) s)))
    ∙ sym (ap (located c.args.line) (c.in-None.ensures w s)))
    (one_written c.in_ok-value-in-None.value (g.K.Sink.taken c.args.out.now) (g.K.Sink.taken c.write_output.new.out) (Ok tt) c.in_ok-write_output-in-None.ensures.text)

pub returns-then-is_empty-clause-run : goal.returns-then-is_empty-clause-run
unfolding AreAllValues
returns-then-is_empty-clause-run g c = λ w input.
    let s = store_in c.args.self.now.storage in
    let none = no_values c.in_ok-values-in-Some.values.now c.is_empty.result c.is_empty.ensures c.if-is_empty.true in
    prints_values (fortran77 w) c.args.line (expression_of c.args.expr.now) input (seen c.args.self.now) (g.K.Sink.taken c.args.out.now) (g.K.Sink.taken c.args.out.now) c.in_ok-values-in-Some.values.now (Ok tt)
    (all_ok c.args.line (all_values c.in-Some.name s) c.all.result c.in_ok-values-in-Some.values c.all.ensures (sym c.in_ok-values-in-Some.was ∙ c.at.ensures)
    ∙ sym (ap (located c.args.line) (c.in-Some.ensures w s)))
    (no_output c.in_ok-values-in-Some.values.now (g.K.Sink.taken c.args.out.now) none)

-- ---- the sink, where nothing is given

pub returns-then-is_empty-clause-told : goal.returns-then-is_empty-clause-told
unfolding AreAllValues
returns-then-is_empty-clause-told g c = λ w input bytes.
    let s = store_in c.args.self.now.storage in
    let none = no_values c.in_ok-values-in-Some.values.now c.is_empty.result c.is_empty.ensures c.if-is_empty.true in
    still _ bytes
    (prints_values (fortran77 w) c.args.line (expression_of c.args.expr.now) input (seen c.args.self.now) (Some bytes) (Some bytes) c.in_ok-values-in-Some.values.now (Ok tt)
    (all_ok c.args.line (all_values c.in-Some.name s) c.all.result c.in_ok-values-in-Some.values c.all.ensures (sym c.in_ok-values-in-Some.was ∙ c.at.ensures)
    ∙ sym (ap (located c.args.line) (c.in-Some.ensures w s)))
    (no_output c.in_ok-values-in-Some.values.now (Some bytes) none))

pub returns-in_err-values-in-Some-clause-told : goal.returns-in_err-values-in-Some-clause-told
unfolding AreAllValues
returns-in_err-values-in-Some-clause-told g c = λ w input bytes.
    let s = store_in c.args.self.now.storage in
    still _ bytes
    (rw (residual c.from_residual.ensures.1)
    (prints_fault (fortran77 w) c.args.line (expression_of c.args.expr.now) input (seen c.args.self.now) (Some bytes) (Some bytes) c.in_err-values-in-Some.field-0.0
    (all_fault c.args.line (all_values c.in-Some.name s) c.all.result c.in_err-values-in-Some.field-0.0 c.all.ensures (sym c.in_err-values-in-Some.was ∙ c.at.ensures)
    ∙ sym (ap (located c.args.line) (c.in-Some.ensures w s)))))

pub returns-in_err-write_outputs-in-Some-clause-told : goal.returns-in_err-write_outputs-in-Some-clause-told
unfolding AreAllValues
returns-in_err-write_outputs-in-Some-clause-told g c = λ w input bytes.
    let s = store_in c.args.self.now.storage in
    let text = output_text c.in_ok-values-in-Some.values.now in
    given text bytes (λ e. absurd (some_output c.in_ok-values-in-Some.values.now (values_there c.in_ok-values-in-Some.values.now c.is_empty.result c.is_empty.ensures c.if-is_empty.false) e))
    (rw (residual c.from_residual-in_err-write_outputs-in-Some.ensures.1)
    (prints_values (fortran77 w) c.args.line (expression_of c.args.expr.now) input (seen c.args.self.now) (Some bytes) (Some (bytes ++ text)) c.in_ok-values-in-Some.values.now (Err c.in_err-write_outputs-in-Some.field-0.0)
    (all_ok c.args.line (all_values c.in-Some.name s) c.all.result c.in_ok-values-in-Some.values c.all.ensures (sym c.in_ok-values-in-Some.was ∙ c.at.ensures)
    ∙ sym (ap (located c.args.line) (c.in-Some.ensures w s)))
    (taken_whole text bytes (Err c.in_err-write_outputs-in-Some.field-0.0))))

pub returns-in_ok-write_outputs-in-Some-clause-told : goal.returns-in_ok-write_outputs-in-Some-clause-told
unfolding AreAllValues
returns-in_ok-write_outputs-in-Some-clause-told g c = λ w input bytes.
    let s = store_in c.args.self.now.storage in
    let text = output_text c.in_ok-values-in-Some.values.now in
    given text bytes (λ e. absurd (some_output c.in_ok-values-in-Some.values.now (values_there c.in_ok-values-in-Some.values.now c.is_empty.result c.is_empty.ensures c.if-is_empty.false) e))
    (prints_values (fortran77 w) c.args.line (expression_of c.args.expr.now) input (seen c.args.self.now) (Some bytes) (Some (bytes ++ text)) c.in_ok-values-in-Some.values.now (Ok tt)
    (all_ok c.args.line (all_values c.in-Some.name s) c.all.result c.in_ok-values-in-Some.values c.all.ensures (sym c.in_ok-values-in-Some.was ∙ c.at.ensures)
    ∙ sym (ap (located c.args.line) (c.in-Some.ensures w s)))
    (taken_whole text bytes (Ok tt)))

pub returns-in_err-value-in-None-clause-told : goal.returns-in_err-value-in-None-clause-told
unfolding IsOneValue
returns-in_err-value-in-None-clause-told g c = λ w input bytes.
    let s = store_in c.args.self.now.storage in
    still _ bytes
    (rw (residual c.from_residual-in_err-value-in-None.ensures.1)
    (prints_fault (fortran77 w) c.args.line (expression_of c.args.expr.now) input (seen c.args.self.now) (Some bytes) (Some bytes) c.in_err-value-in-None.field-0.0
    (one_fault c.args.line (value_of (fortran77 w) (expression_of c.args.expr.now) s) c.in_err-value-in-None.field-0.0 (sym c.in_err-value-in-None.was ∙ c.at-in-None.ensures ∙ ap (located c.args.line) (c.value.ensures ∙ sym (same_value w (expression_of c.args.expr.now) s)))
    ∙ sym (ap (located c.args.line) (c.in-None.ensures w s)))))

pub returns-in_err-write_output-in-None-clause-told : goal.returns-in_err-write_output-in-None-clause-told
unfolding IsOneValue
returns-in_err-write_output-in-None-clause-told g c = λ w input bytes.
    let s = store_in c.args.self.now.storage in
    let text = output_text (c.in_ok-value-in-None.value ∷ []) in
    given text bytes (λ e. absurd (one_output _ e))
    (rw (residual c.from_residual-in_err-write_output-in-None.ensures.1)
    (prints_values (fortran77 w) c.args.line (expression_of c.args.expr.now) input (seen c.args.self.now) (Some bytes) (Some (bytes ++ text)) (c.in_ok-value-in-None.value ∷ []) (Err c.in_err-write_output-in-None.field-0.0)
    (one_ok c.args.line (value_of (fortran77 w) (expression_of c.args.expr.now) s) c.in_ok-value-in-None.value (sym c.in_ok-value-in-None.was ∙ c.at-in-None.ensures ∙ ap (located c.args.line) (c.value.ensures ∙ sym (same_value w (expression_of c.args.expr.now) s)))
    ∙ sym (ap (located c.args.line) (c.in-None.ensures w s)))
    (taken_whole text bytes (Err c.in_err-write_output-in-None.field-0.0))))

pub returns-in_ok-write_output-in-None-clause-told : goal.returns-in_ok-write_output-in-None-clause-told
unfolding IsOneValue
returns-in_ok-write_output-in-None-clause-told g c = λ w input bytes.
    let s = store_in c.args.self.now.storage in
    let text = output_text (c.in_ok-value-in-None.value ∷ []) in
    given text bytes (λ e. absurd (one_output _ e))
    (prints_values (fortran77 w) c.args.line (expression_of c.args.expr.now) input (seen c.args.self.now) (Some bytes) (Some (bytes ++ text)) (c.in_ok-value-in-None.value ∷ []) (Ok tt)
    (one_ok c.args.line (value_of (fortran77 w) (expression_of c.args.expr.now) s) c.in_ok-value-in-None.value (sym c.in_ok-value-in-None.was ∙ c.at-in-None.ensures ∙ ap (located c.args.line) (c.value.ensures ∙ sym (same_value w (expression_of c.args.expr.now) s)))
    ∙ sym (ap (located c.args.line) (c.in-None.ensures w s)))
    (taken_whole text bytes (Ok tt)))
