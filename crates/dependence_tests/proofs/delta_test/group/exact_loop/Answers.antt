use Rattle.dependence_tests.proofs.delta_test.group.exact_loop.Goals as goal

pub returns-in_err-at : goal.returns-in_err-at
returns-in_err-at c = rw c.from_residual.ensures (λ x. c.in_err-at.ensures x.loop (λ k q h. (x.each k q h).0))
