use Rattle.std.proofs.Common.{arith}
use Rattle.meaning.specs.Reads.{names_in_subscript}
use Rattle.tree.specs.View.{subscript_of}
use Rattle.array_form.proofs.holds.Standing.{among_more}
use Rattle.array_form.proofs.holds.loops_standing.loops_in_sub.Goals as goal

pub loop-turns-preserved : goal.loop-turns-preserved
loop-turns-preserved c = λ n.
    among_more (names_in_subscript (subscript_of c.args.sub.now)) n c.args.loops.now c.loop-turns.turns-index c.turns-item.result c.loop-turns.those c.push_if.new.those c.stands_in_sub.result
    (omega arith) c.turns-item.is c.stands_in_sub.ensures c.in_ok-push_if.ensures (c.loop-turns.invariant n)
