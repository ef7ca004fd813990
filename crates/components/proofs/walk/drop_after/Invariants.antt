use Rattle.std.proofs.Common.{◌<◌, ◌≤◌, ℕ, length}
use Rattle.components.specs.Lists.{IsMember, Pairwise}
use Rattle.components.proofs.walk.drop_after.Given as goal

abbrev pub invariant-dropping : goal.invariant-dropping
invariant-dropping l = record {
  rising : Pairwise (λ b c. b.0 < c.0) l.starts.items;
  from : (b : ℕ × ℕ) → IsMember b l.starts.items → IsMember b l.fn.starts.items;
  kept : (b : ℕ × ℕ) → IsMember b l.fn.starts.items → b.0 ≤ l.place → IsMember b l.starts.items;
  fewer : length l.starts.items ≤ length l.fn.starts.items;
}

abbrev pub decreases-dropping : goal.decreases-dropping
decreases-dropping l = length l.starts.items
