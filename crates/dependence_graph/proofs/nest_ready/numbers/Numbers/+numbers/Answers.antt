use Rattle.std.proofs.Common.{arith}
use Rattle.nest.specs.Bodies.{loops_of}
use Rattle.nest.specs.Plain.{Part}
use Rattle.nest.specs.View.{Branch, branch_of, part_of}
use Rattle.dependence_graph.specs.nest_ready.Gathered.{loops_in_branch, numbers_of}
use Rattle.nest.proofs.statement_loops.StandingLaws.{more}
use Rattle.dependence_graph.proofs.nest_ready.numbers.Numbers.+numbers.Goals as goal

pub add_parts-loop-part-preserved : goal.add_parts-loop-part-preserved
add_parts-loop-part-preserved t c =
    more (λ (p : Part). numbers_of (loops_of p)) part_of c.as_slice-part-items.result.now c.loop-part.part-index c.part-item.result
    c.args.self.now.list c.loop-part.self.list c.add_part.new.self.list
    (omega arith) c.part-item.is c.loop-part.invariant c.in_ok-add_part.ensures

pub add_arms-loop-arm-preserved : goal.add_arms-loop-arm-preserved
add_arms-loop-arm-preserved t c =
    more (λ (b : Branch). numbers_of (loops_in_branch b)) branch_of c.as_slice-arm-items.result.now c.loop-arm.arm-index c.arm-item.result
    c.args.self.now.list c.loop-arm.self.list c.add_arm.new.self.list
    (omega arith) c.arm-item.is c.loop-arm.invariant c.in_ok-add_arm.ensures
