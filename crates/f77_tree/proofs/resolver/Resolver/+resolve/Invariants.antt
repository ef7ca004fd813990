use Rattle.std.proofs.Common.{◌≡◌, map, take}
use Rattle.tree.specs.View.{expression_of, subscript_of}
use Rattle.f77_grammar.specs.program.Tree as tree
use Rattle.f77_tree.specs.Parts.{known_uses, known_store}
use Rattle.f77_tree.proofs.resolver.Resolver.+resolve.Given as goal
use Rattle.reading.specs.Signs as signs

abbrev pub invariant-resolve_all-loop-expr : goal.invariant-resolve_all-loop-expr
invariant-resolve_all-loop-expr l =
    map expression_of l.resolved ≡ map (λ e. tree.resolved (known_uses l.self) (known_store l.self) (expression_of e)) (take l.expr-index l.expr-items)

abbrev pub invariant-arguments-loop-sub : goal.invariant-arguments-loop-sub
invariant-arguments-loop-sub l =
    map expression_of l.arguments ≡ map (λ p. signs.argument_of (tree.resolved_subscript (known_uses l.self) (known_store l.self) (subscript_of p))) (take l.sub-index l.sub-items)

abbrev pub invariant-resolve_subs-loop-sub : goal.invariant-resolve_subs-loop-sub
invariant-resolve_subs-loop-sub l =
    map subscript_of l.resolved ≡ map (λ p. tree.resolved_subscript (known_uses l.self) (known_store l.self) (subscript_of p)) (take l.sub-index l.sub-items)
