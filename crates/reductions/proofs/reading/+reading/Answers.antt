use Rattle.std.proofs.Common.{◌≡◌, ◌++◌, arith, rules}
use Rattle.std.proofs.lemmas.Grind.{common_steps}
use Rattle.tree.specs.declared.exprs.Turn.{out-Turn}
use Rattle.tree.specs.View.{expression_of, subscript_of}
use Rattle.rewrite.proofs.UseLaws.{more}
use Rattle.std.proofs.Common.{map}
use Rattle.tree.specs.View.{loop_of, constructor_loops}
use Rattle.reductions.specs.Reading.{read_in, read_in_subscript, read_under, without}
use Rattle.reductions.proofs.LoopLaws.{under_end, under_more}
use Rattle.reductions.proofs.reading.+reading.Goals as goal

pub add_exprs-loop-expr-preserved : goal.add_exprs-loop-expr-preserved
add_exprs-loop-expr-preserved t c =
    more read_in expression_of c.as_slice-expr-items.result.now c.loop-expr.expr-index c.expr-item.result c.args.names.now c.loop-expr.names c.add_expr.new.names
    (omega arith) c.expr-item.is c.loop-expr.invariant c.in_ok-add_expr.ensures

pub add_subs-loop-sub-preserved : goal.add_subs-loop-sub-preserved
add_subs-loop-sub-preserved t c =
    more read_in_subscript subscript_of c.as_slice-sub-items.result.now c.loop-sub.sub-index c.sub-item.result c.args.names.now c.loop-sub.names c.add_sub.new.names
    (omega arith) c.sub-item.is c.loop-sub.invariant c.in_ok-add_sub.ensures

pub under_turns-loop-turn-preserved : goal.under_turns-loop-turn-preserved
under_turns-loop-turn-preserved t c =
    let now : c.add_without.new.names ≡ c.add_turn.new.names ++ without (out-Turn c.turn-item.result).var c.loop-turn.inner = first_of (search rules, grind (arith, common_steps)) in
    under_more (read_under (constructor_loops (map loop_of c.args.turns.now)) c.args.values)
    c.as_slice-turn-items.result.now c.loop-turn.turn-index c.turn-item.result c.loop-turn.inner c.new-round.result c.add_turn.new.names c.add_without.new.names
    (omega arith) c.turn-item.is c.loop-turn.invariant c.new-round.ensures c.in_ok-add_turn.ensures now

pub under_turns-returns : goal.under_turns-returns
under_turns-returns t c =
    under_end (read_under (constructor_loops (map loop_of c.args.turns.now)) c.args.values) c.as_slice-turn-items.result.now c.loop-turn.turn-index c.loop-turn.inner (omega arith) c.loop-turn.invariant
