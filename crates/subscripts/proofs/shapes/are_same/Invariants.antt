use Rattle.std.proofs.Common.{◌≡◌, ℕ, ◌<◌, get_or}
use Rattle.subscripts.specs.Iterations.{once}
use Rattle.subscripts.proofs.shapes.are_same.Given as goal

abbrev pub invariant-loop-place : goal.invariant-loop-place
invariant-loop-place l = (k : ℕ) → k < l.place → get_or l.first k once ≡ get_or l.second k once
