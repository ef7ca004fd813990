-- The references of those so far were added.
use Rattle.std.proofs.Common.{◌≡◌, ◌++◌, map, take}
use Rattle.std.specs.List.{flat_map}
use Rattle.tree.specs.View.{expression_of, reference_of, subscript_of}
use Rattle.dependence_graph.specs.nest_graph.References.{references_in, references_in_subscript}
use Rattle.dependence_graph.proofs.nest_references.collecting.Found.+found.Given as goal

abbrev pub invariant-add_exprs-loop-expr : goal.invariant-add_exprs-loop-expr
invariant-add_exprs-loop-expr l =
    map reference_of l.self.list ≡ map reference_of l.initial.self.list ++ flat_map (references_in l.loops) (map expression_of (take l.expr-index l.expr-items))

abbrev pub invariant-add_subs-loop-sub : goal.invariant-add_subs-loop-sub
invariant-add_subs-loop-sub l =
    map reference_of l.self.list ≡ map reference_of l.initial.self.list ++ flat_map (references_in_subscript l.loops) (map subscript_of (take l.sub-index l.sub-items))
