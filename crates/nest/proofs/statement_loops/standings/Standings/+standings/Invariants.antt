-- The statements of the parts so far were added.
use Rattle.std.proofs.Common.{◌≡◌, ◌++◌, map, take}
use Rattle.std.specs.List.{flat_map}
use Rattle.nest.specs.Bodies.{statements_in}
use Rattle.nest.specs.View.{branch_of, loop_of, part_of}
use Rattle.nest.specs.statement_loops.Standings.{standing_of, statements_in_branch}
use Rattle.nest.proofs.statement_loops.standings.Standings.+standings.Given as goal

abbrev pub invariant-add_parts-loop-part : goal.invariant-add_parts-loop-part
invariant-add_parts-loop-part l =
    map standing_of l.self.list ≡ map standing_of l.initial.self.list ++ flat_map (statements_in (map loop_of l.loops)) (map part_of (take l.part-index l.part-items))

abbrev pub invariant-add_arms-loop-arm : goal.invariant-add_arms-loop-arm
invariant-add_arms-loop-arm l =
    map standing_of l.self.list ≡ map standing_of l.initial.self.list ++ flat_map (statements_in_branch (map loop_of l.loops)) (map branch_of (take l.arm-index l.arm-items))
