use Rattle.std.proofs.Common.{◌≡◌, ◌<◌, ◌≤◌, ◌+◌, ◌++◌, ℕ, Some, List}
use Rattle.closed_walks.specs.Distances.{AreChosen, at}
use Rattle.closed_walks.proofs.walks.follow.Given as goal

abbrev pub invariant-loop-left : goal.invariant-loop-left
invariant-loop-left l = record {
  most : l.left ≤ l.count + 1;
  first : l.left ≡ l.count + 1 → l.at ≡ l.from;
  later : l.left < l.count + 1 → at l.steps l.at ≡ Some l.left;
  chosen : (rest : List ℕ) → AreChosen l.pairs l.steps l.at l.left rest → AreChosen l.pairs l.steps l.from (l.count + 1) (l.over ++ rest);
}

abbrev pub decreases-loop-left : goal.decreases-loop-left
decreases-loop-left l = l.left
