use Rattle.std.proofs.Common.{◌≡◌, ◌++◌, map, take}
use Rattle.tree.specs.Plain.{subscripts, expressions}
use Rattle.tree.specs.View.{expression_of, subscript_of}
use Rattle.f77_grammar.specs.program.Uses as plain
use Rattle.f77_names.specs.UsesView.{listed}
use Rattle.f77_names.proofs.uses.Uses.+uses.Given as goal

abbrev pub invariant-add_exprs-loop-expr : goal.invariant-add_exprs-loop-expr
invariant-add_exprs-loop-expr l = listed l.self ≡ listed l.initial.self ++ plain.uses_in_arguments (expressions (map expression_of (take l.expr-index l.expr-items)))

abbrev pub invariant-add_subs-loop-sub : goal.invariant-add_subs-loop-sub
invariant-add_subs-loop-sub l = listed l.self ≡ listed l.initial.self ++ plain.uses77_in_subscripts (subscripts (map subscript_of (take l.sub-index l.sub-items)))
