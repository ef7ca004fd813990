use Rattle.dependence_tests.proofs.delta_test.learn.learned_of_all.Goals as goal

pub loop-init : goal.loop-init
loop-init c = record { constraints = c.nothing-learned.ensures.constraints; kept = λ x y e. c.nothing-learned.ensures.kept x y }

pub returns-in_err-learned : goal.returns-in_err-learned
returns-in_err-learned c = rw c.from_residual.ensures (λ x y e. c.in_err-learned.ensures x y (c.loop.invariant.kept x y e) e)

pub loop-preserved : goal.loop-preserved
loop-preserved c = record { constraints = c.in_ok-learned.ensures.constraints; kept = λ x y e. c.in_ok-learned.ensures.kept x y (c.loop.invariant.kept x y e) e }
