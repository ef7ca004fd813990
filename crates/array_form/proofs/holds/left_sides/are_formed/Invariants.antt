-- All so far have form.
use Rattle.std.proofs.Common.{◌≡◌, map, take, true}
use Rattle.std.specs.List.{list_all}
use Rattle.tree.specs.View.{subscript_of}
use Rattle.array_form.specs.holds.View.{surroundings_view}
use Rattle.array_form.specs.holds.Levels.{is_formed, loops_from_place}
use Rattle.array_form.proofs.holds.left_sides.are_formed.Given as goal

abbrev pub invariant-loop-sub : goal.invariant-loop-sub
invariant-loop-sub l = list_all (is_formed (surroundings_view l.a) (loops_from_place l.a l.from)) (map subscript_of (take l.sub-index l.sub-items)) ≡ true
