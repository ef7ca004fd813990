use Rattle.std.proofs.Common.{map, arith}
use Rattle.nest.specs.Bodies.{statements_in}
use Rattle.nest.specs.View.{branch_of, loop_of, part_of}
use Rattle.nest.specs.statement_loops.Standings.{standing_of, statements_in_branch}
use Rattle.nest.proofs.statement_loops.StandingLaws.{more}
use Rattle.nest.proofs.statement_loops.standings.Standings.+standings.Goals as goal

pub add_parts-loop-part-preserved : goal.add_parts-loop-part-preserved
add_parts-loop-part-preserved t c =
    more (statements_in (map loop_of c.args.loops.now)) part_of c.as_slice-part-items.result.now c.loop-part.part-index c.part-item.result
    (map standing_of c.args.self.now.list) (map standing_of c.loop-part.self.list) (map standing_of c.add_part.new.self.list)
    (omega arith) c.part-item.is c.loop-part.invariant c.in_ok-add_part.ensures

pub add_arms-loop-arm-preserved : goal.add_arms-loop-arm-preserved
add_arms-loop-arm-preserved t c =
    more (statements_in_branch (map loop_of c.args.loops.now)) branch_of c.as_slice-arm-items.result.now c.loop-arm.arm-index c.arm-item.result
    (map standing_of c.args.self.now.list) (map standing_of c.loop-arm.self.list) (map standing_of c.add_arm.new.self.list)
    (omega arith) c.arm-item.is c.loop-arm.invariant c.in_ok-add_arm.ensures
