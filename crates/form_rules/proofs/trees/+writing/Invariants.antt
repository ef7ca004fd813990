-- What was made so far is what is made of the nodes so far, and whether the variable of a loop stood in them is known.
use Rattle.std.proofs.Common.{◌≡◌, ◌≤◌, map, take, length}
use Rattle.std.specs.List.{flat_map}
use Rattle.tree.specs.View.{expression_of, loop_of, subscript_of}
use Rattle.rewrite.specs.Making.{made, made_subscript}
use Rattle.rewrite.specs.MadeBlocks.{made_loop}
use Rattle.rewrite.specs.Names.{uses_in, uses_in_subscript}
use Rattle.rewrite.specs.NamesAlong.{uses_in_loop}
use Rattle.linear_forms.specs.Canonical.{canonising}
use Rattle.form_rules.specs.Written.{stands_in}
use Rattle.form_rules.proofs.Gathering.{AreTaken}
use Rattle.form_rules.proofs.trees.+writing.Given as goal

abbrev pub invariant-write_all-loop-expr : goal.invariant-write_all-loop-expr
invariant-write_all-loop-expr l = record {
  made : map expression_of l.made ≡ map (made (canonising l.loops l.symbols)) (map expression_of (take l.expr-index l.expr-items));
  had_loop : l.had_loop ≡ stands_in l.loops (flat_map uses_in (map expression_of (take l.expr-index l.expr-items)));
}

abbrev pub invariant-write_arguments-loop-expr : goal.invariant-write_arguments-loop-expr
invariant-write_arguments-loop-expr l = record {
  made : map expression_of l.made ≡ map (made (canonising l.loops l.symbols)) (map expression_of (take l.expr-index l.expr-items));
  had_loop : l.had_loop ≡ stands_in l.loops (flat_map uses_in (map expression_of (take l.expr-index l.expr-items)));
  given : length l.loops ≤ 7 → AreTaken l.function (map expression_of l.made) l.given;
}

abbrev pub invariant-write_turns-loop-turn : goal.invariant-write_turns-loop-turn
invariant-write_turns-loop-turn l = record {
  made : map loop_of l.made ≡ map (made_loop (canonising l.loops l.symbols)) (map loop_of (take l.turn-index l.turn-items));
  had_loop : l.had_loop ≡ stands_in l.loops (flat_map uses_in_loop (map loop_of (take l.turn-index l.turn-items)));
}

abbrev pub invariant-write_subscripts-loop-sub : goal.invariant-write_subscripts-loop-sub
invariant-write_subscripts-loop-sub l = record {
  made : map subscript_of l.made ≡ map (made_subscript (canonising l.loops l.symbols)) (map subscript_of (take l.sub-index l.sub-items));
  had_loop : l.had_loop ≡ stands_in l.loops (flat_map uses_in_subscript (map subscript_of (take l.sub-index l.sub-items)));
}
