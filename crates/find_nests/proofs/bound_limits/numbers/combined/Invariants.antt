-- what was added, and what is left to be added
use Rattle.std.proofs.Common.{◌≡◌, ◌++◌, ◌*ℤ◌, map, drop}
use Rattle.linear_forms.specs.Linear.{added}
use Rattle.find_nests.proofs.bound_limits.numbers.combined.Given as goal

abbrev pub invariant-loop-place : goal.invariant-loop-place
invariant-loop-place l = l.sum.items ++ added (drop l.place l.f) (map (λ a. l.times *ℤ a) (drop l.place l.g)) ≡ added l.f (map (λ a. l.times *ℤ a) l.g)
