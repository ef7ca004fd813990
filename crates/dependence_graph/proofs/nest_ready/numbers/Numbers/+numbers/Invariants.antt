-- The numbers of the parts so far were added.
use Rattle.std.proofs.Common.{◌≡◌, ◌++◌, map, take}
use Rattle.std.specs.List.{flat_map}
use Rattle.nest.specs.Bodies.{loops_of}
use Rattle.nest.specs.Plain.{Part}
use Rattle.nest.specs.View.{Branch, branch_of, part_of}
use Rattle.dependence_graph.specs.nest_ready.Gathered.{loops_in_branch, numbers_of}
use Rattle.dependence_graph.proofs.nest_ready.numbers.Numbers.+numbers.Given as goal

abbrev pub invariant-add_parts-loop-part : goal.invariant-add_parts-loop-part
invariant-add_parts-loop-part l =
    l.self.list ≡ l.initial.self.list ++ flat_map (λ (p : Part). numbers_of (loops_of p)) (map part_of (take l.part-index l.part-items))

abbrev pub invariant-add_arms-loop-arm : goal.invariant-add_arms-loop-arm
invariant-add_arms-loop-arm l =
    l.self.list ≡ l.initial.self.list ++ flat_map (λ (b : Branch). numbers_of (loops_in_branch b)) (map branch_of (take l.arm-index l.arm-items))
