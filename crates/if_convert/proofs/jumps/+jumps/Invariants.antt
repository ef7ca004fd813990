-- The jumps so far, and those of what is left, are all.
use Rattle.std.proofs.Common.{◌≡◌, ◌+◌, map, drop}
use Rattle.nest.specs.View.{branch_of, part_of}
use Rattle.if_convert.specs.Arms.{jumps_in_arms, jumps_in_list}
use Rattle.if_convert.proofs.jumps.+jumps.Given as goal

abbrev pub invariant-jumps_in_arms-loop-arm : goal.invariant-jumps_in_arms-loop-arm
invariant-jumps_in_arms-loop-arm l =
    l.count + jumps_in_arms (map branch_of (drop l.arm-index l.arm-items)) ≡ jumps_in_arms (map branch_of l.arm-items)

abbrev pub invariant-jumps_in_parts-loop-part : goal.invariant-jumps_in_parts-loop-part
invariant-jumps_in_parts-loop-part l =
    l.count + jumps_in_list l.left_out (map part_of (drop l.part-index l.part-items)) ≡ jumps_in_list l.skips (map part_of l.part-items)
