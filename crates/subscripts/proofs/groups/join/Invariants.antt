use Rattle.std.proofs.Common.{◌≡◌, ℕ, ◌<◌, ◌≤◌, get_or}
use Rattle.subscripts.specs.Partitions.{joined_number}
use Rattle.subscripts.proofs.groups.join.Given as goal

abbrev pub invariant-loop-group : goal.invariant-loop-group
invariant-loop-group l = record {
  done : (k : ℕ) → k < l.group-index → get_or l.groups k 0 ≡ joined_number l.fn.first l.fn.second (get_or l.fn.groups k 0);
  rest : (k : ℕ) → l.group-index ≤ k → get_or l.groups k 0 ≡ get_or l.fn.groups k 0;
}
