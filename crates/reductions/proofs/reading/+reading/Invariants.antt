use Rattle.std.proofs.Common.{◌≡◌, ◌++◌, map, take, drop}
use Rattle.std.specs.List.{flat_map}
use Rattle.tree.specs.View.{expression_of, loop_of, constructor_loops, subscript_of}
use Rattle.reductions.specs.Reading.{read_in, read_in_subscript, read_under}
use Rattle.reductions.proofs.reading.+reading.Given as goal

abbrev pub invariant-add_exprs-loop-expr : goal.invariant-add_exprs-loop-expr
invariant-add_exprs-loop-expr l = l.names ≡ l.initial.names ++ flat_map read_in (map expression_of (take l.expr-index l.expr-items))

abbrev pub invariant-add_subs-loop-sub : goal.invariant-add_subs-loop-sub
invariant-add_subs-loop-sub l = l.names ≡ l.initial.names ++ flat_map read_in_subscript (map subscript_of (take l.sub-index l.sub-items))

-- what the loops so far make of the values' names, the further ones make the constructor's
abbrev pub invariant-under_turns-loop-turn : goal.invariant-under_turns-loop-turn
invariant-under_turns-loop-turn l = read_under (constructor_loops (map loop_of l.turns)) l.fn.values ≡ read_under (constructor_loops (map loop_of (drop l.turn-index l.turn-items))) l.inner
