-- Each loop of the parts so far has a form from 1 by 1, or not.
use Rattle.std.proofs.Common.{◌≡◌, map, take}
use Rattle.std.specs.List.{list_all}
use Rattle.nest.specs.View.{branch_of, part_of}
use Rattle.normal_loops.specs.Normal as loops
use Rattle.normal_loops.specs.Arms as arms
use Rattle.normal_loops.proofs.loops.+forms.Given as goal

abbrev pub invariant-are_normal-loop-part : goal.invariant-are_normal-loop-part
invariant-are_normal-loop-part l = l.all ≡ list_all (loops.is_normal l.symbols l.round) (map part_of (take l.part-index l.part-items))

abbrev pub invariant-are_normal_arms-loop-arm : goal.invariant-are_normal_arms-loop-arm
invariant-are_normal_arms-loop-arm l = l.all ≡ list_all (arms.is_normal_branch l.symbols l.round) (map branch_of (take l.arm-index l.arm-items))
