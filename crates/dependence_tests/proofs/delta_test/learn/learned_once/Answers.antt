use Rattle.std.proofs.Common.{arith}
use Rattle.dependence_tests.proofs.delta_test.learn.learned_once.Goals as goal

pub loop-p-init : goal.loop-p-init
loop-p-init c = record { constraints = c.requires.constraints; kept = λ x y k e. k }

pub returns-in_err-learned : goal.returns-in_err-learned
returns-in_err-learned c =
    rw c.from_residual.ensures (λ x y k e. c.in_err-learned.ensures x y (c.loop-p.invariant.kept x y k e) (e c.loop-p.p-index _ (omega arith)))

pub loop-p-preserved : goal.loop-p-preserved
loop-p-preserved c = record {
  constraints = c.in_ok-learned.ensures.constraints;
  kept = λ x y k e. c.in_ok-learned.ensures.kept x y (c.loop-p.invariant.kept x y k e) (e c.loop-p.p-index _ (omega arith));
}
