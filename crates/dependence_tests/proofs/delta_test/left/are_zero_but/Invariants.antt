use Rattle.std.proofs.Common.{◌≡◌, ℕ, ◌<◌, get_or}
use Rattle.std.specs.Prelude.{pos}
use Rattle.dependence_tests.proofs.delta_test.left.are_zero_but.Given as goal

abbrev pub invariant-loop-place : goal.invariant-loop-place
invariant-loop-place l = (k : ℕ) → k < l.place → (k ≡ l.one → ⊥) → get_or l.numbers k (pos 0) ≡ pos 0
