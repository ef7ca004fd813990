use Rattle.std.proofs.Common.{◌≡◌, ℕ, ◌<◌, ◌≤◌, get_or}
use Rattle.std.specs.Prelude.{IsSome, IsTrue}
use Rattle.subscripts.specs.Iterations.{once}
use Rattle.subscripts.proofs.shapes.are_spans.Given as goal

abbrev pub invariant-loop-place : goal.invariant-loop-place
invariant-loop-place l = record {
  ends : (k : ℕ) → k < l.place → IsTrue (get_or l.spans k once).fixed → IsSome (get_or l.spans k once).last;
  past : (k : ℕ) → l.depth ≤ k → k < l.place → get_or l.spans k once ≡ once;
}
