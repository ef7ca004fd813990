use Rattle.std.proofs.Common.{◌≡◌, ◌++◌, map, take}
use Rattle.std.specs.List.{flat_map}
use Rattle.meaning.specs.Reads.{names_in, names_in_subscript}
use Rattle.tree.specs.View.{expression_of, loop_of, subscript_of}
use Rattle.rewrite.specs.Names.{uses_in, uses_in_subscript}
use Rattle.rewrite.specs.NamesAlong.{names_in_loop, uses_in_loop}
use Rattle.rewrite.proofs.uses.Uses.+uses.Given as goal

abbrev pub invariant-add_exprs-loop-expr : goal.invariant-add_exprs-loop-expr
invariant-add_exprs-loop-expr l = record {
  uses : l.self.list ≡ l.initial.self.list ++ flat_map uses_in (map expression_of (take l.expr-index l.expr-items));
  names : l.self.names ≡ l.initial.self.names ++ flat_map names_in (map expression_of (take l.expr-index l.expr-items));
}

abbrev pub invariant-add_turns-loop-turn : goal.invariant-add_turns-loop-turn
invariant-add_turns-loop-turn l = record {
  uses : l.self.list ≡ l.initial.self.list ++ flat_map uses_in_loop (map loop_of (take l.turn-index l.turn-items));
  names : l.self.names ≡ l.initial.self.names ++ flat_map names_in_loop (map loop_of (take l.turn-index l.turn-items));
}

abbrev pub invariant-add_subs-loop-sub : goal.invariant-add_subs-loop-sub
invariant-add_subs-loop-sub l = record {
  uses : l.self.list ≡ l.initial.self.list ++ flat_map uses_in_subscript (map subscript_of (take l.sub-index l.sub-items));
  names : l.self.names ≡ l.initial.self.names ++ flat_map names_in_subscript (map subscript_of (take l.sub-index l.sub-items));
}
