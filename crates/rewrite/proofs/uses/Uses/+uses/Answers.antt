use Rattle.std.proofs.Common.{arith}
use Rattle.meaning.specs.Reads.{names_in, names_in_subscript}
use Rattle.tree.specs.View.{expression_of, loop_of, subscript_of}
use Rattle.rewrite.specs.Names.{uses_in, uses_in_subscript}
use Rattle.rewrite.specs.NamesAlong.{names_in_loop, uses_in_loop}
use Rattle.rewrite.proofs.UseLaws.{more}
use Rattle.rewrite.proofs.uses.Uses.+uses.Goals as goal

pub add_exprs-loop-expr-preserved : goal.add_exprs-loop-expr-preserved
add_exprs-loop-expr-preserved t c = record {
  uses =
      more uses_in expression_of c.as_slice-expr-items.result.now c.loop-expr.expr-index c.expr-item.result c.args.self.now.list c.loop-expr.self.list c.add_expr.new.self.list
      (omega arith) c.expr-item.is c.loop-expr.invariant.uses c.in_ok-add_expr.ensures.uses;
  names =
      more names_in expression_of c.as_slice-expr-items.result.now c.loop-expr.expr-index c.expr-item.result c.args.self.now.names c.loop-expr.self.names c.add_expr.new.self.names
      (omega arith) c.expr-item.is c.loop-expr.invariant.names c.in_ok-add_expr.ensures.names;
}

pub add_turns-loop-turn-preserved : goal.add_turns-loop-turn-preserved
add_turns-loop-turn-preserved t c = record {
  uses =
      more uses_in_loop loop_of c.as_slice-turn-items.result.now c.loop-turn.turn-index c.turn-item.result c.args.self.now.list c.loop-turn.self.list c.add_turn.new.self.list
      (omega arith) c.turn-item.is c.loop-turn.invariant.uses c.in_ok-add_turn.ensures.uses;
  names =
      more names_in_loop loop_of c.as_slice-turn-items.result.now c.loop-turn.turn-index c.turn-item.result c.args.self.now.names c.loop-turn.self.names c.add_turn.new.self.names
      (omega arith) c.turn-item.is c.loop-turn.invariant.names c.in_ok-add_turn.ensures.names;
}

pub add_subs-loop-sub-preserved : goal.add_subs-loop-sub-preserved
add_subs-loop-sub-preserved t c = record {
  uses =
      more uses_in_subscript subscript_of c.as_slice-sub-items.result.now c.loop-sub.sub-index c.sub-item.result c.args.self.now.list c.loop-sub.self.list c.add_sub.new.self.list
      (omega arith) c.sub-item.is c.loop-sub.invariant.uses c.in_ok-add_sub.ensures.uses;
  names =
      more names_in_subscript subscript_of c.as_slice-sub-items.result.now c.loop-sub.sub-index c.sub-item.result c.args.self.now.names c.loop-sub.self.names c.add_sub.new.self.names
      (omega arith) c.sub-item.is c.loop-sub.invariant.names c.in_ok-add_sub.ensures.names;
}
