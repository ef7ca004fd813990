use Rattle.std.proofs.Common.{arith}
use Rattle.array_form.specs.holds.View.{loop_names}
use Rattle.array_form.proofs.LoopLaws.{standing_more}
use Rattle.array_form.proofs.loops_in_text.those_among.Goals as goal

pub loop-turns-preserved : goal.loop-turns-preserved
loop-turns-preserved c =
    standing_more (loop_names c.args.here.now) c.args.loops.now c.loop-turns.turns-index c.turns-item.result c.loop-turns.those c.push_if.new.those c.has_loop.result
    (omega arith) c.turns-item.is c.has_loop.ensures c.in_ok-push_if.ensures c.loop-turns.invariant
