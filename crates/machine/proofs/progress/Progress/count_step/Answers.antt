use Rattle.std.proofs.Common.{refl, ap, ◌∙◌, ℕ, Option, Some, arith}
use Rattle.machine.specs.Moments.{seen_at}
use Rattle.machine.proofs.StepLaws.{step_unlimited, step_missing, step_taken}
use Rattle.machine.proofs.progress.Progress.count_step.Goals as goal

pub returns-then-left-eq0 : goal.returns-then-left-eq0
returns-then-left-eq0 c = λ ds s. step_missing (seen_at ds s c.args.self.now)
    (c.in-Some.is ∙ ap (λ k. let o : Option ℕ = Some k in o) (omega (arith, c.if-left-eq0.true)))

pub returns-else-left-eq0 : goal.returns-else-left-eq0
returns-else-left-eq0 c = λ ds s. step_taken (seen_at ds s c.args.self.now) _ c.in-Some.left c.in-Some.is
    (omega (arith, c.if-left-eq0.false)) refl refl refl refl refl

pub returns-in_default : goal.returns-in_default
returns-in_default c = λ ds s. step_unlimited (seen_at ds s c.args.self.now) c.in_default.is
