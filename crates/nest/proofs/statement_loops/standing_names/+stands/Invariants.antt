-- The name stands in none of those so far.
use Rattle.std.proofs.Common.{◌≡◌, map, take, false}
use Rattle.std.specs.List.{list_any}
use Rattle.meaning.specs.Reads.{names_in, names_in_subscript}
use Rattle.tree.specs.View.{expression_of, loop_of, subscript_of}
use Rattle.nest.specs.statement_loops.Standings.{names_in_loop}
use Rattle.nest.specs.statement_loops.Names.{is_among}
use Rattle.nest.proofs.statement_loops.standing_names.+stands.Given as goal

abbrev pub invariant-stands_in_one-loop-expr : goal.invariant-stands_in_one-loop-expr
invariant-stands_in_one-loop-expr l = list_any (λ e. is_among (names_in e) l.name) (map expression_of (take l.expr-index l.expr-items)) ≡ false

abbrev pub invariant-stands_in_turns-loop-turn : goal.invariant-stands_in_turns-loop-turn
invariant-stands_in_turns-loop-turn l = list_any (λ t. is_among (names_in_loop t) l.name) (map loop_of (take l.turn-index l.turn-items)) ≡ false

abbrev pub invariant-stands_in_subs-loop-sub : goal.invariant-stands_in_subs-loop-sub
invariant-stands_in_subs-loop-sub l = list_any (λ p. is_among (names_in_subscript p) l.name) (map subscript_of (take l.sub-index l.sub-items)) ≡ false
