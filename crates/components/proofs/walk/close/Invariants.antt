use Rattle.std.proofs.Common.{◌≡◌, ◌≤◌, length, take}
use Rattle.components.specs.Walking.{IsClosed}
use Rattle.components.proofs.walk.close.Given as goal

abbrev pub invariant-loop-path : goal.invariant-loop-path
invariant-loop-path l = record {
  path : l.path.items ≡ take (length l.path.items) l.fn.path.items;
  from : l.start ≤ length l.path.items;
  upto : length l.path.items ≤ length l.fn.path.items;
  marks : IsClosed l.fn.marks.items l.fn.path.items (length l.path.items) l.class l.marks.items;
}

abbrev pub decreases-loop-path : goal.decreases-loop-path
decreases-loop-path l = length l.path.items
