use Rattle.std.proofs.Common.{◌≡◌, map, drop}
use Rattle.tree.specs.Plain.{subscripts, expressions}
use Rattle.tree.specs.View.{expression_of, subscript_of, loop_of, constructor_loops}
use Rattle.f90_names.specs.kinds.declarations.Names.{found}
use Rattle.f90_names.specs.kinds.FoundNames as plain
use Rattle.f90_names.proofs.kinds.known.+names.Given as goal

abbrev pub invariant-knows_all-loop-expr : goal.invariant-knows_all-loop-expr
invariant-knows_all-loop-expr l =
    plain.knows_all (found l.names) (expressions (map expression_of l.expr-items))
    ≡ plain.knows_all (found l.names) (expressions (map expression_of (drop l.expr-index l.expr-items)))

abbrev pub invariant-knows_loops-loop-turn : goal.invariant-knows_loops-loop-turn
invariant-knows_loops-loop-turn l =
    plain.knows_loops (found l.names) (constructor_loops (map loop_of l.turn-items)) ≡ plain.knows_loops (found l.names)
    (constructor_loops (map loop_of (drop l.turn-index l.turn-items)))

abbrev pub invariant-knows_subs-loop-sub : goal.invariant-knows_subs-loop-sub
invariant-knows_subs-loop-sub l =
    plain.knows_subscripts (found l.names) (subscripts (map subscript_of l.sub-items))
    ≡ plain.knows_subscripts (found l.names) (subscripts (map subscript_of (drop l.sub-index l.sub-items)))
