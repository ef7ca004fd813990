-- The points of those so far were added.
use Rattle.std.proofs.Common.{◌≡◌, take}
use Rattle.index_split.specs.Gathered.{Adds}
use Rattle.index_split.specs.Points.{IsPointAmong}
use Rattle.index_split.proofs.points.Points.add_table.Given as goal

abbrev pub invariant-loop-first : goal.invariant-loop-first
invariant-loop-first l = record {
  trip : l.self.trip ≡ l.initial.self.trip;
  list : Adds (IsPointAmong (take l.first-index l.all) l.all l.self.trip) l.initial.self.list l.self.list;
}
