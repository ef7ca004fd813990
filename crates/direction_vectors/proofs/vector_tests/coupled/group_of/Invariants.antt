use Rattle.std.proofs.Common.{◌≡◌, ◌≤◌, take, length}
use Rattle.direction_vectors.specs.vector_tests.Places.{picked}
use Rattle.direction_vectors.proofs.vector_tests.coupled.group_of.Given as goal

abbrev pub invariant-loop-place : goal.invariant-loop-place
invariant-loop-place l = record {
  members : take l.group.count l.group.at ≡ picked l.number l.groups.of (take l.place l.ps);
  count : l.group.count ≤ l.place;
  room : length l.group.at ≡ 7;
}
