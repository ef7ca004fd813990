use Rattle.std.proofs.Common.{ℤ, sym, ap, ◌∙◌, subst, to_z, of_z, Ok, Err, rules}
use Rattle.std.specs.Int.{w128}
use Rattle.tree.specs.View.{expression_of}
use Rattle.meaning.specs.Dialect.{fortran90}
use Rattle.meaning.specs.Value.{number_of, increment_of, trip_count}
use Rattle.meaning.specs.Run.{sets_variable, repeated, turn, evaluates}
use Rattle.machine.specs.declared.progress.Left.TheVariants.{Halted}
use Rattle.machine.specs.Moments.{located}
use Rattle.machine.specs.Acts.{Runs}
use Rattle.machine.proofs.Residuals.{residual, settled}
use Rattle.machine.proofs.ActLaws.{Runs-evaluates, Runs-fault, Runs-then, Runs-halted, Stays-evaluates}
use Rattle.array_values.specs.storage.Stored.{store_in}
use Rattle.array_expressions.specs.assignments.Loops.{BeginsLoop}
use Rattle.array_expressions.specs.assignments.Moments.{seen}
use Rattle.array_expressions.proofs.assignments.Lacking.{asked, asked_of}
use Rattle.array_expressions.proofs.assignments.Looping.{first_stuck, last_stuck, step_stuck, with_parameters}
use Rattle.array_expressions.proofs.assignments.moment.Moment.begin_loop.Goals as goal

pub returns-in_err-first : goal.returns-in_err-first
returns-in_err-first c =
    let line = c.args.line in
    let first = expression_of c.args.first.now in
    let last = expression_of c.args.last.now in
    let step = expression_of c.args.step.now in
    rw (residual c.from_residual.ensures.1)
    (first_stuck c.args.width line c.args.name first last step (seen c.args.self.now) c.in_err-first.field-0.0
    (asked_of line (λ (z : ℤ). z) (number_of (fortran90 c.args.width) first) c.number.result _ c.scope.result.storage.now c.args.self.now.storage c.scope.ensures (sym c.in_err-first.was ∙ c.at.ensures) c.number.ensures))

pub returns-in_err-last : goal.returns-in_err-last
returns-in_err-last c =
    let line = c.args.line in
    let first = expression_of c.args.first.now in
    let last = expression_of c.args.last.now in
    let step = expression_of c.args.step.now in
    rw (residual c.from_residual-in_err-last.ensures.1)
    (last_stuck c.args.width line c.args.name first last step (seen c.args.self.now) c.in_ok-first.first
    (asked_of line (λ (z : ℤ). z) (number_of (fortran90 c.args.width) first) c.number.result _ c.scope.result.storage.now c.args.self.now.storage c.scope.ensures (sym c.in_ok-first.was ∙ c.at.ensures) c.number.ensures)
    c.in_err-last.field-0.0
    (asked_of line (λ (z : ℤ). z) (number_of (fortran90 c.args.width) last) c.number-2.result _ c.scope-2.result.storage.now c.args.self.now.storage c.scope-2.ensures (sym c.in_err-last.was ∙ c.at-2.ensures) c.number-2.ensures))

pub returns-in_err-step : goal.returns-in_err-step
returns-in_err-step c =
    let line = c.args.line in
    let first = expression_of c.args.first.now in
    let last = expression_of c.args.last.now in
    let step = expression_of c.args.step.now in
    rw (residual c.from_residual-in_err-step.ensures.1)
    (step_stuck c.args.width line c.args.name first last step (seen c.args.self.now) c.in_ok-first.first
    (asked_of line (λ (z : ℤ). z) (number_of (fortran90 c.args.width) first) c.number.result _ c.scope.result.storage.now c.args.self.now.storage c.scope.ensures (sym c.in_ok-first.was ∙ c.at.ensures) c.number.ensures)
    c.in_ok-last.last
    (asked_of line (λ (z : ℤ). z) (number_of (fortran90 c.args.width) last) c.number-2.result _ c.scope-2.result.storage.now c.args.self.now.storage c.scope-2.ensures (sym c.in_ok-last.was ∙ c.at-2.ensures) c.number-2.ensures)
    c.in_err-step.field-0.0
    (asked line (λ (z : ℤ). z) (increment_of (fortran90 c.args.width) step (store_in c.args.self.now.storage)) c.step.result _ (sym c.in_err-step.was ∙ c.at-3.ensures) c.step.ensures.value))

pub returns-in_err-set_variable : goal.returns-in_err-set_variable
unfolding BeginsLoop
returns-in_err-set_variable c =
    let line = c.args.line in
    let first = expression_of c.args.first.now in
    let last = expression_of c.args.last.now in
    let step = expression_of c.args.step.now in
    rw (residual c.from_residual-in_err-set_variable.ensures.1)
    (λ body input bytes.
    with_parameters c.args.width line c.args.name first last step (seen c.args.self.now) c.in_ok-first.first
    (asked_of line (λ (z : ℤ). z) (number_of (fortran90 c.args.width) first) c.number.result _ c.scope.result.storage.now c.args.self.now.storage c.scope.ensures (sym c.in_ok-first.was ∙ c.at.ensures) c.number.ensures)
    c.in_ok-last.last
    (asked_of line (λ (z : ℤ). z) (number_of (fortran90 c.args.width) last) c.number-2.result _ c.scope-2.result.storage.now c.args.self.now.storage c.scope-2.ensures (sym c.in_ok-last.was ∙ c.at-2.ensures) c.number-2.ensures)
    c.in_ok-step.step
    (asked line (λ (z : ℤ). z) (increment_of (fortran90 c.args.width) step (store_in c.args.self.now.storage)) c.step.result _ (sym c.in_ok-step.was ∙ c.at-3.ensures) c.step.ensures.value)
    body input (seen c.set_variable.new.self) bytes bytes (Err (Halted c.in_err-set_variable.field-0.0))
    (Runs-halted (λ limit. sets_variable (fortran90 c.args.width) limit line c.args.name c.in_ok-first.first) (λ limit. evaluates line (λ s. trip_count c.in_ok-first.first c.in_ok-last.last c.in_ok-step.step) (λ n. repeated n (turn (fortran90 c.args.width) limit line c.args.name c.in_ok-step.step (body limit)))) input (seen c.args.self.now) (seen c.set_variable.new.self) bytes bytes c.in_err-set_variable.field-0.0
    (subst (λ z. Runs (λ limit. sets_variable (fortran90 c.args.width) limit line c.args.name z) input (seen c.args.self.now) bytes (seen c.set_variable.new.self) bytes (Err (Halted c.in_err-set_variable.field-0.0))) (settled c.in_ok-first.first (search rules)) (c.in_err-set_variable.ensures input bytes))
    (Stays-evaluates line (λ s. trip_count c.in_ok-first.first c.in_ok-last.last c.in_ok-step.step) (λ n limit. repeated n (turn (fortran90 c.args.width) limit line c.args.name c.in_ok-step.step (body limit))))))

pub returns-in_err-count : goal.returns-in_err-count
unfolding BeginsLoop
returns-in_err-count c =
    let line = c.args.line in
    let first = expression_of c.args.first.now in
    let last = expression_of c.args.last.now in
    let step = expression_of c.args.step.now in
    rw (residual c.from_residual-in_err-count.ensures.1)
    (λ body input bytes.
    with_parameters c.args.width line c.args.name first last step (seen c.args.self.now) c.in_ok-first.first
    (asked_of line (λ (z : ℤ). z) (number_of (fortran90 c.args.width) first) c.number.result _ c.scope.result.storage.now c.args.self.now.storage c.scope.ensures (sym c.in_ok-first.was ∙ c.at.ensures) c.number.ensures)
    c.in_ok-last.last
    (asked_of line (λ (z : ℤ). z) (number_of (fortran90 c.args.width) last) c.number-2.result _ c.scope-2.result.storage.now c.args.self.now.storage c.scope-2.ensures (sym c.in_ok-last.was ∙ c.at-2.ensures) c.number-2.ensures)
    c.in_ok-step.step
    (asked line (λ (z : ℤ). z) (increment_of (fortran90 c.args.width) step (store_in c.args.self.now.storage)) c.step.result _ (sym c.in_ok-step.was ∙ c.at-3.ensures) c.step.ensures.value)
    body input (seen c.set_variable.new.self) bytes bytes (Err (Halted c.in_err-count.field-0.0))
    (Runs-then (λ limit. sets_variable (fortran90 c.args.width) limit line c.args.name c.in_ok-first.first) (λ limit. evaluates line (λ s. trip_count c.in_ok-first.first c.in_ok-last.last c.in_ok-step.step) (λ n. repeated n (turn (fortran90 c.args.width) limit line c.args.name c.in_ok-step.step (body limit)))) input (seen c.args.self.now) (seen c.set_variable.new.self) bytes bytes (seen c.set_variable.new.self) bytes (Err (Halted c.in_err-count.field-0.0))
    (subst (λ z. Runs (λ limit. sets_variable (fortran90 c.args.width) limit line c.args.name z) input (seen c.args.self.now) bytes (seen c.set_variable.new.self) bytes (Ok tt)) (settled c.in_ok-first.first (search rules)) (c.in_ok-set_variable.ensures input bytes))
    (Runs-fault line (λ s. trip_count c.in_ok-first.first c.in_ok-last.last c.in_ok-step.step) c.in_err-count.field-0.0 (λ n limit. repeated n (turn (fortran90 c.args.width) limit line c.args.name c.in_ok-step.step (body limit))) input (seen c.set_variable.new.self) bytes
    (sym c.in_err-count.was ∙ c.at-4.ensures ∙ ap (located line) (c.trip_count.ensures ∙ ap (λ z. trip_count z (to_z w128 (of_z w128 c.in_ok-last.last)) (to_z w128 (of_z w128 c.in_ok-step.step))) (settled c.in_ok-first.first (search rules)) ∙ ap (λ z. trip_count c.in_ok-first.first z (to_z w128 (of_z w128 c.in_ok-step.step))) (settled c.in_ok-last.last (search rules)) ∙ ap (trip_count c.in_ok-first.first c.in_ok-last.last) (settled c.in_ok-step.step (search rules)))))))

pub returns : goal.returns
unfolding BeginsLoop
returns c = λ body input before now end r h.
    let line = c.args.line in
    let first = expression_of c.args.first.now in
    let last = expression_of c.args.last.now in
    let step = expression_of c.args.step.now in
    with_parameters c.args.width line c.args.name first last step (seen c.args.self.now) c.in_ok-first.first
    (asked_of line (λ (z : ℤ). z) (number_of (fortran90 c.args.width) first) c.number.result _ c.scope.result.storage.now c.args.self.now.storage c.scope.ensures (sym c.in_ok-first.was ∙ c.at.ensures) c.number.ensures)
    c.in_ok-last.last
    (asked_of line (λ (z : ℤ). z) (number_of (fortran90 c.args.width) last) c.number-2.result _ c.scope-2.result.storage.now c.args.self.now.storage c.scope-2.ensures (sym c.in_ok-last.was ∙ c.at-2.ensures) c.number-2.ensures)
    c.in_ok-step.step
    (asked line (λ (z : ℤ). z) (increment_of (fortran90 c.args.width) step (store_in c.args.self.now.storage)) c.step.result _ (sym c.in_ok-step.was ∙ c.at-3.ensures) c.step.ensures.value)
    body input end before now r
    (Runs-then (λ limit. sets_variable (fortran90 c.args.width) limit line c.args.name c.in_ok-first.first) (λ limit. evaluates line (λ s. trip_count c.in_ok-first.first c.in_ok-last.last c.in_ok-step.step) (λ n. repeated n (turn (fortran90 c.args.width) limit line c.args.name c.in_ok-step.step (body limit)))) input (seen c.args.self.now) (seen c.set_variable.new.self) before before end now r
    (subst (λ z. Runs (λ limit. sets_variable (fortran90 c.args.width) limit line c.args.name z) input (seen c.args.self.now) before (seen c.set_variable.new.self) before (Ok tt)) (settled c.in_ok-first.first (search rules)) (c.in_ok-set_variable.ensures input before))
    (Runs-evaluates line (λ s. trip_count c.in_ok-first.first c.in_ok-last.last c.in_ok-step.step) c.in_ok-count.count (λ n limit. repeated n (turn (fortran90 c.args.width) limit line c.args.name c.in_ok-step.step (body limit))) input (seen c.set_variable.new.self) end before now r
    (sym c.in_ok-count.was ∙ c.at-4.ensures ∙ ap (located line) (c.trip_count.ensures ∙ ap (λ z. trip_count z (to_z w128 (of_z w128 c.in_ok-last.last)) (to_z w128 (of_z w128 c.in_ok-step.step))) (settled c.in_ok-first.first (search rules)) ∙ ap (λ z. trip_count c.in_ok-first.first z (to_z w128 (of_z w128 c.in_ok-step.step))) (settled c.in_ok-last.last (search rules)) ∙ ap (trip_count c.in_ok-first.first c.in_ok-last.last) (settled c.in_ok-step.step (search rules))))
    (subst (λ z. Runs (λ limit. repeated c.in_ok-count.count (turn (fortran90 c.args.width) limit line c.args.name z (body limit))) input (seen c.set_variable.new.self) before end now r) (settled c.in_ok-step.step (search rules)) h)))
