-- The points with those so far were added.
use Rattle.std.proofs.Common.{◌≡◌, [], ◌∷◌, take}
use Rattle.index_split.specs.Gathered.{Adds}
use Rattle.index_split.specs.Points.{IsPointAmong}
use Rattle.index_split.proofs.points.Points.add_row.Given as goal

abbrev pub invariant-loop-second : goal.invariant-loop-second
invariant-loop-second l = record {
  trip : l.self.trip ≡ l.initial.self.trip;
  list : Adds (IsPointAmong (l.first ∷ []) (take l.second-index l.all) l.self.trip) l.initial.self.list l.self.list;
}
