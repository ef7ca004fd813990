use Rattle.std.proofs.Common.{◌≡◌, arith, rules}
use Rattle.meaning.specs.Reads.{names_in, names_in_subscript}
use Rattle.tree.specs.View.{expression_of, loop_of, subscript_of}
use Rattle.nest.specs.statement_loops.Standings.{names_in_loop}
use Rattle.nest.specs.statement_loops.Names.{is_among}
use Rattle.nest.proofs.statement_loops.StandingLaws.{finds, finds_none}
use Rattle.nest.proofs.statement_loops.standing_names.+stands.Goals as goal

pub stands_in_one-returns-then-stands_in : goal.stands_in_one-returns-then-stands_in
stands_in_one-returns-then-stands_in t c =
    let same : c.as_slice-expr-items.result.now ≡ c.args.exprs.now = first_of (cc, search rules) in
    finds (λ z. is_among (names_in z) c.args.name) expression_of c.as_slice-expr-items.result.now c.args.exprs.now c.loop-expr.expr-index c.expr-item.result c.stands_in.result
    same (omega arith) c.expr-item.is c.stands_in.ensures c.if-stands_in.true

pub stands_in_one-returns : goal.stands_in_one-returns
stands_in_one-returns t c =
    let same : c.as_slice-expr-items.result.now ≡ c.args.exprs.now = first_of (cc, search rules) in
    finds_none (λ z. is_among (names_in z) c.args.name) expression_of c.as_slice-expr-items.result.now c.args.exprs.now c.loop-expr.expr-index same (omega arith) c.loop-expr.invariant

pub stands_in_subs-returns-then-stands_in_sub : goal.stands_in_subs-returns-then-stands_in_sub
stands_in_subs-returns-then-stands_in_sub t c =
    let same : c.as_slice-sub-items.result.now ≡ c.args.subs.now = first_of (cc, search rules) in
    finds (λ z. is_among (names_in_subscript z) c.args.name) subscript_of c.as_slice-sub-items.result.now c.args.subs.now c.loop-sub.sub-index c.sub-item.result c.stands_in_sub.result
    same (omega arith) c.sub-item.is c.stands_in_sub.ensures c.if-stands_in_sub.true

pub stands_in_subs-returns : goal.stands_in_subs-returns
stands_in_subs-returns t c =
    let same : c.as_slice-sub-items.result.now ≡ c.args.subs.now = first_of (cc, search rules) in
    finds_none (λ z. is_among (names_in_subscript z) c.args.name) subscript_of c.as_slice-sub-items.result.now c.args.subs.now c.loop-sub.sub-index same (omega arith) c.loop-sub.invariant

pub stands_in_turns-returns-then-stands_in_turn : goal.stands_in_turns-returns-then-stands_in_turn
stands_in_turns-returns-then-stands_in_turn t c =
    let same : c.as_slice-turn-items.result.now ≡ c.args.turns.now = first_of (cc, search rules) in
    finds (λ z. is_among (names_in_loop z) c.args.name) loop_of c.as_slice-turn-items.result.now c.args.turns.now c.loop-turn.turn-index c.turn-item.result c.stands_in_turn.result
    same (omega arith) c.turn-item.is c.stands_in_turn.ensures c.if-stands_in_turn.true

pub stands_in_turns-returns : goal.stands_in_turns-returns
stands_in_turns-returns t c =
    let same : c.as_slice-turn-items.result.now ≡ c.args.turns.now = first_of (cc, search rules) in
    finds_none (λ z. is_among (names_in_loop z) c.args.name) loop_of c.as_slice-turn-items.result.now c.args.turns.now c.loop-turn.turn-index same (omega arith) c.loop-turn.invariant
