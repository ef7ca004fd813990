use Rattle.std.proofs.Common.{sym, ap, ◌∙◌, subst, to_z, of_z, Ok, Err, rules}
use Rattle.std.specs.Int.{w128}
use Rattle.tree.specs.View.{expression_of}
use Rattle.meaning.specs.Dialect.{fortran77}
use Rattle.meaning.specs.Value.{number_of, increment_of, trip_count}
use Rattle.meaning.specs.Run.{sets_variable, repeated, turn, evaluates}
use Rattle.machine.specs.declared.progress.Left.TheVariants.{Halted}
use Rattle.machine.specs.Stored.{store_in}
use Rattle.machine.specs.Moments.{located}
use Rattle.machine.specs.Acts.{Runs}
use Rattle.machine.specs.Loops.{BeginsLoop}
use Rattle.machine.proofs.Residuals.{residual, settled}
use Rattle.machine.proofs.ActLaws.{Runs-evaluates, Runs-fault, Runs-then, Runs-halted, Stays-evaluates}
use Rattle.run77.specs.Moments.{seen}
use Rattle.meaning.proofs.Widths.{same_number, same_increment}
use Rattle.run77.proofs.moment.Moment.begin_loop.Goals as goal

pub returns-in_err-first : goal.returns-in_err-first
unfolding BeginsLoop
returns-in_err-first c =
    rw (residual c.from_residual.ensures.1)
    (λ body input bytes. Runs-fault c.args.line (number_of (fortran77 c.args.width) (expression_of c.args.first.now)) c.in_err-first.field-0.0 _ input (seen c.args.self.now) bytes
    (sym c.in_err-first.was ∙ c.at.ensures ∙ ap (located c.args.line) (c.parameter.ensures ∙ sym (same_number c.args.width (expression_of c.args.first.now) (store_in c.args.self.now.storage)))))

pub returns-in_err-last : goal.returns-in_err-last
unfolding BeginsLoop
returns-in_err-last c =
    rw (residual c.from_residual-in_err-last.ensures.1)
    (λ body input bytes. (Runs-evaluates c.args.line (number_of (fortran77 c.args.width) (expression_of c.args.first.now)) c.in_ok-first.first _ input (seen c.args.self.now) (seen c.args.self.now) bytes bytes _ (sym c.in_ok-first.was ∙ c.at.ensures ∙ ap (located c.args.line) (c.parameter.ensures ∙ sym (same_number c.args.width (expression_of c.args.first.now) (store_in c.args.self.now.storage))))
    (Runs-fault c.args.line (number_of (fortran77 c.args.width) (expression_of c.args.last.now)) c.in_err-last.field-0.0 _ input (seen c.args.self.now) bytes
    (sym c.in_err-last.was ∙ c.at-2.ensures ∙ ap (located c.args.line) (c.parameter-2.ensures ∙ sym (same_number c.args.width (expression_of c.args.last.now) (store_in c.args.self.now.storage)))))))

pub returns-in_err-step : goal.returns-in_err-step
unfolding BeginsLoop
returns-in_err-step c =
    rw (residual c.from_residual-in_err-step.ensures.1)
    (λ body input bytes. (Runs-evaluates c.args.line (number_of (fortran77 c.args.width) (expression_of c.args.first.now)) c.in_ok-first.first _ input (seen c.args.self.now) (seen c.args.self.now) bytes bytes _ (sym c.in_ok-first.was ∙ c.at.ensures ∙ ap (located c.args.line) (c.parameter.ensures ∙ sym (same_number c.args.width (expression_of c.args.first.now) (store_in c.args.self.now.storage))))
    (Runs-evaluates c.args.line (number_of (fortran77 c.args.width) (expression_of c.args.last.now)) c.in_ok-last.last _ input (seen c.args.self.now) (seen c.args.self.now) bytes bytes _ (sym c.in_ok-last.was ∙ c.at-2.ensures ∙ ap (located c.args.line) (c.parameter-2.ensures ∙ sym (same_number c.args.width (expression_of c.args.last.now) (store_in c.args.self.now.storage))))
    (Runs-fault c.args.line (increment_of (fortran77 c.args.width) (expression_of c.args.step.now)) c.in_err-step.field-0.0 _ input (seen c.args.self.now) bytes
    (sym c.in_err-step.was ∙ c.at-3.ensures ∙ ap (located c.args.line) (c.step.ensures.value ∙ sym (same_increment c.args.width (expression_of c.args.step.now) (store_in c.args.self.now.storage))))))))

pub returns-in_err-set_variable : goal.returns-in_err-set_variable
unfolding BeginsLoop
returns-in_err-set_variable c =
    rw (residual c.from_residual-in_err-set_variable.ensures.1)
    (λ body input bytes. (Runs-evaluates c.args.line (number_of (fortran77 c.args.width) (expression_of c.args.first.now)) c.in_ok-first.first _ input (seen c.args.self.now) (seen c.set_variable.new.self) bytes bytes _ (sym c.in_ok-first.was ∙ c.at.ensures ∙ ap (located c.args.line) (c.parameter.ensures ∙ sym (same_number c.args.width (expression_of c.args.first.now) (store_in c.args.self.now.storage))))
    (Runs-evaluates c.args.line (number_of (fortran77 c.args.width) (expression_of c.args.last.now)) c.in_ok-last.last _ input (seen c.args.self.now) (seen c.set_variable.new.self) bytes bytes _ (sym c.in_ok-last.was ∙ c.at-2.ensures ∙ ap (located c.args.line) (c.parameter-2.ensures ∙ sym (same_number c.args.width (expression_of c.args.last.now) (store_in c.args.self.now.storage))))
    (Runs-evaluates c.args.line (increment_of (fortran77 c.args.width) (expression_of c.args.step.now)) c.in_ok-step.step _ input (seen c.args.self.now) (seen c.set_variable.new.self) bytes bytes _ (sym c.in_ok-step.was ∙ c.at-3.ensures ∙ ap (located c.args.line) (c.step.ensures.value ∙ sym (same_increment c.args.width (expression_of c.args.step.now) (store_in c.args.self.now.storage))))
    (Runs-halted _ (λ limit. evaluates c.args.line (λ s. trip_count c.in_ok-first.first c.in_ok-last.last c.in_ok-step.step) (λ n. repeated n (turn (fortran77 c.args.width) limit c.args.line c.args.name c.in_ok-step.step (body limit)))) input (seen c.args.self.now) (seen c.set_variable.new.self) bytes bytes c.in_err-set_variable.field-0.0
    (subst (λ z. Runs (λ limit. sets_variable (fortran77 c.args.width) limit c.args.line c.args.name z) input (seen c.args.self.now) bytes (seen c.set_variable.new.self) bytes (Err (Halted c.in_err-set_variable.field-0.0))) (settled c.in_ok-first.first (search rules)) (c.in_err-set_variable.ensures input bytes))
    (Stays-evaluates c.args.line (λ s. trip_count c.in_ok-first.first c.in_ok-last.last c.in_ok-step.step) (λ n limit. repeated n (turn (fortran77 c.args.width) limit c.args.line c.args.name c.in_ok-step.step (body limit)))))))))

pub returns-in_err-count : goal.returns-in_err-count
unfolding BeginsLoop
returns-in_err-count c =
    rw (residual c.from_residual-in_err-count.ensures.1)
    (λ body input bytes. (Runs-evaluates c.args.line (number_of (fortran77 c.args.width) (expression_of c.args.first.now)) c.in_ok-first.first _ input (seen c.args.self.now) (seen c.set_variable.new.self) bytes bytes _ (sym c.in_ok-first.was ∙ c.at.ensures ∙ ap (located c.args.line) (c.parameter.ensures ∙ sym (same_number c.args.width (expression_of c.args.first.now) (store_in c.args.self.now.storage))))
    (Runs-evaluates c.args.line (number_of (fortran77 c.args.width) (expression_of c.args.last.now)) c.in_ok-last.last _ input (seen c.args.self.now) (seen c.set_variable.new.self) bytes bytes _ (sym c.in_ok-last.was ∙ c.at-2.ensures ∙ ap (located c.args.line) (c.parameter-2.ensures ∙ sym (same_number c.args.width (expression_of c.args.last.now) (store_in c.args.self.now.storage))))
    (Runs-evaluates c.args.line (increment_of (fortran77 c.args.width) (expression_of c.args.step.now)) c.in_ok-step.step _ input (seen c.args.self.now) (seen c.set_variable.new.self) bytes bytes _ (sym c.in_ok-step.was ∙ c.at-3.ensures ∙ ap (located c.args.line) (c.step.ensures.value ∙ sym (same_increment c.args.width (expression_of c.args.step.now) (store_in c.args.self.now.storage))))
    (Runs-then _ _ input (seen c.args.self.now) (seen c.set_variable.new.self) bytes bytes (seen c.set_variable.new.self) bytes _
    (subst (λ z. Runs (λ limit. sets_variable (fortran77 c.args.width) limit c.args.line c.args.name z) input (seen c.args.self.now) bytes (seen c.set_variable.new.self) bytes (Ok tt)) (settled c.in_ok-first.first (search rules)) (c.in_ok-set_variable.ensures input bytes))
    (Runs-fault c.args.line (λ s. trip_count c.in_ok-first.first c.in_ok-last.last c.in_ok-step.step) c.in_err-count.field-0.0 _ input (seen c.set_variable.new.self) bytes
    (sym c.in_err-count.was ∙ c.at-4.ensures ∙ ap (located c.args.line) (c.trip_count.ensures ∙ ap (λ z. trip_count z (to_z w128 (of_z w128 c.in_ok-last.last)) (to_z w128 (of_z w128 c.in_ok-step.step))) (settled c.in_ok-first.first (search rules)) ∙ ap (λ z. trip_count c.in_ok-first.first z (to_z w128 (of_z w128 c.in_ok-step.step))) (settled c.in_ok-last.last (search rules)) ∙ ap (trip_count c.in_ok-first.first c.in_ok-last.last) (settled c.in_ok-step.step (search rules))))))))))

pub returns : goal.returns
unfolding BeginsLoop
returns c = λ body input before now end r h.
    (Runs-evaluates c.args.line (number_of (fortran77 c.args.width) (expression_of c.args.first.now)) c.in_ok-first.first _ input (seen c.args.self.now) end before now r (sym c.in_ok-first.was ∙ c.at.ensures ∙ ap (located c.args.line) (c.parameter.ensures ∙ sym (same_number c.args.width (expression_of c.args.first.now) (store_in c.args.self.now.storage))))
    (Runs-evaluates c.args.line (number_of (fortran77 c.args.width) (expression_of c.args.last.now)) c.in_ok-last.last _ input (seen c.args.self.now) end before now r (sym c.in_ok-last.was ∙ c.at-2.ensures ∙ ap (located c.args.line) (c.parameter-2.ensures ∙ sym (same_number c.args.width (expression_of c.args.last.now) (store_in c.args.self.now.storage))))
    (Runs-evaluates c.args.line (increment_of (fortran77 c.args.width) (expression_of c.args.step.now)) c.in_ok-step.step _ input (seen c.args.self.now) end before now r (sym c.in_ok-step.was ∙ c.at-3.ensures ∙ ap (located c.args.line) (c.step.ensures.value ∙ sym (same_increment c.args.width (expression_of c.args.step.now) (store_in c.args.self.now.storage))))
    (Runs-then _ _ input (seen c.args.self.now) (seen c.set_variable.new.self) before before end now r
    (subst (λ z. Runs (λ limit. sets_variable (fortran77 c.args.width) limit c.args.line c.args.name z) input (seen c.args.self.now) before (seen c.set_variable.new.self) before (Ok tt)) (settled c.in_ok-first.first (search rules)) (c.in_ok-set_variable.ensures input before))
    (Runs-evaluates c.args.line (λ s. trip_count c.in_ok-first.first c.in_ok-last.last c.in_ok-step.step) c.in_ok-count.count _ input (seen c.set_variable.new.self) end before now r
    (sym c.in_ok-count.was ∙ c.at-4.ensures ∙ ap (located c.args.line) (c.trip_count.ensures ∙ ap (λ z. trip_count z (to_z w128 (of_z w128 c.in_ok-last.last)) (to_z w128 (of_z w128 c.in_ok-step.step))) (settled c.in_ok-first.first (search rules)) ∙ ap (λ z. trip_count c.in_ok-first.first z (to_z w128 (of_z w128 c.in_ok-step.step))) (settled c.in_ok-last.last (search rules)) ∙ ap (trip_count c.in_ok-first.first c.in_ok-last.last) (settled c.in_ok-step.step (search rules))))
    (subst (λ z. Runs (λ limit. repeated c.in_ok-count.count (turn (fortran77 c.args.width) limit c.args.line c.args.name z (body limit))) input (seen c.set_variable.new.self) before end now r) (settled c.in_ok-step.step (search rules)) h))))))
