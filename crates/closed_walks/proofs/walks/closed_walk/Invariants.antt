use Rattle.std.proofs.Common.{◌≡◌, ◌≤◌, ◌+◌, length}
use Rattle.closed_walks.specs.Distances.{HasNoneBefore, IsDistance, known}
use Rattle.closed_walks.proofs.walks.closed_walk.Given as goal

abbrev pub invariant-loop-count : goal.invariant-loop-count
invariant-loop-count l = record {
  size : length l.steps.items ≡ l.n;
  distance : IsDistance l.pairs l.start l.count l.steps.items;
  before : HasNoneBefore l.pairs l.steps.items l.start l.count;
  known : l.count + 1 ≤ known l.steps.items;
}
