use Rattle.std.proofs.Common.{◌∙◌, arith}
use Rattle.meaning.specs.Reads.{names_in}
use Rattle.tree.specs.View.{expression_of}
use Rattle.array_form.proofs.holds.AmongLaws.{among-is}
use Rattle.array_form.proofs.LoopLaws.{standing_more}
use Rattle.array_form.proofs.loops_in_text.standing_in.Goals as goal

pub loop-turns-preserved : goal.loop-turns-preserved
loop-turns-preserved c =
    let names = names_in (expression_of c.args.expr.now) in
    standing_more names c.args.loops.now c.loop-turns.turns-index c.turns-item.result c.loop-turns.those c.push_if.new.those c.stands_in.result
    (omega arith) c.turns-item.is (c.stands_in.ensures ∙ among-is names c.turns-item.result.var) c.in_ok-push_if.ensures c.loop-turns.invariant
