use Rattle.std.proofs.Common.{arith}
use Rattle.meaning.specs.Reads.{names_in}
use Rattle.tree.specs.View.{expression_of}
use Rattle.array_form.proofs.holds.Standing.{among_more}
use Rattle.array_form.proofs.holds.loops_standing.loops_in.Goals as goal

pub loop-turns-preserved : goal.loop-turns-preserved
loop-turns-preserved c = λ n.
    among_more (names_in (expression_of c.args.expr.now)) n c.args.loops.now c.loop-turns.turns-index c.turns-item.result c.loop-turns.those c.push_if.new.those c.stands_in.result
    (omega arith) c.turns-item.is c.stands_in.ensures c.in_ok-push_if.ensures (c.loop-turns.invariant n)
