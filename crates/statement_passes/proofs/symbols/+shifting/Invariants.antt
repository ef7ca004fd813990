-- The parts and the arms so far have the places of the longer list.
use Rattle.std.proofs.Common.{◌≡◌, map, take}
use Rattle.nest.specs.View.{branch_of, part_of}
use Rattle.statement_passes.specs.Shifted.{shifted_branch, shifted_part}
use Rattle.statement_passes.proofs.symbols.+shifting.Given as goal

abbrev pub invariant-shifted_parts-loop-part : goal.invariant-shifted_parts-loop-part
invariant-shifted_parts-loop-part l = map part_of l.made ≡ map (shifted_part l.at) (map part_of (take l.part-index l.part-items))

abbrev pub invariant-shifted_arms-loop-arm : goal.invariant-shifted_arms-loop-arm
invariant-shifted_arms-loop-arm l = map branch_of l.made ≡ map (shifted_branch l.at) (map branch_of (take l.arm-index l.arm-items))
