-- The copies so far are those of the items so far.
use Rattle.std.proofs.Common.{◌≡◌, map, take}
use Rattle.nest.specs.View.{part_of, branch_of}
use Rattle.nest.proofs.parts.+part_copy.Given as goal

abbrev pub invariant-copy_arms-loop-arm : goal.invariant-copy_arms-loop-arm
invariant-copy_arms-loop-arm l = map branch_of l.copies ≡ map branch_of (take l.arm-index l.arm-items)

abbrev pub invariant-copy_parts-loop-part : goal.invariant-copy_parts-loop-part
invariant-copy_parts-loop-part l = map part_of l.copies ≡ map part_of (take l.part-index l.part-items)
