-- The name stands outside its loops in none of those so far.
use Rattle.std.proofs.Common.{◌≡◌, map, take, false}
use Rattle.std.specs.List.{list_any}
use Rattle.nest.specs.View.{part_of, branch_of}
use Rattle.last_values.specs.Occurrences as outside
use Rattle.last_values.specs.Arms as arms
use Rattle.last_values.proofs.occurrences.+outside.Given as goal

abbrev pub invariant-stands_outside_in_parts-loop-part : goal.invariant-stands_outside_in_parts-loop-part
invariant-stands_outside_in_parts-loop-part l = list_any (outside.stands_outside l.name) (map part_of (take l.part-index l.part-items)) ≡ false

abbrev pub invariant-stands_outside_in_arms-loop-arm : goal.invariant-stands_outside_in_arms-loop-arm
invariant-stands_outside_in_arms-loop-arm l = list_any (arms.stands_outside_in_branch l.name) (map branch_of (take l.arm-index l.arm-items)) ≡ false
