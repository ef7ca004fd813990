-- What was made so far stands for the parts so far.
use Rattle.std.proofs.Common.{◌≡◌, map, take}
use Rattle.std.specs.List.{flat_map}
use Rattle.nest.specs.View.{branch_of, nest_of, part_of}
use Rattle.normal_loops.specs.Bodies.{normal_part}
use Rattle.normal_loops.specs.Arms.{normal_branch}
use Rattle.normal_loops.proofs.bodies.+bodies.Given as goal

abbrev pub invariant-normal_parts-loop-part : goal.invariant-normal_parts-loop-part
invariant-normal_parts-loop-part l =
    map part_of l.made ≡ flat_map (normal_part (nest_of l.nest) l.loops l.round) (map part_of (take l.part-index l.part-items))

abbrev pub invariant-normal_arms-loop-arm : goal.invariant-normal_arms-loop-arm
invariant-normal_arms-loop-arm l =
    map branch_of l.made ≡ map (normal_branch (nest_of l.nest) l.loops l.round) (map branch_of (take l.arm-index l.arm-items))
