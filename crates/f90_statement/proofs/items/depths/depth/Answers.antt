use Rattle.std.proofs.Common.{arith, ◌≡◌, ◌∷◌, ◌+◌, ◌<◌, List, drop, length, get_or, subst, ap, ◌∙◌, rules}
use Rattle.std.proofs.lemmas.List.{drop_more}
use Rattle.std.specs.Prelude.{reverse}
use Rattle.f90_statement.specs.declared.items.nodes.Node.{Node}
use Rattle.f90_statement.proofs.items.DepthLaws.{IsLeft, one_more}
use Rattle.f90_statement.proofs.items.depths.depth.Goals as goal

pub parts-preserved : goal.parts-preserved
parts-preserved c all a =
    let l : c.parts.node-index < length c.args.nodes.now = first_of (omega arith, search rules) in
    let g : get_or c.args.nodes.now c.parts.node-index c.node-item.result ≡ c.node-item.result = first_of (cc, search rules) in
    let e : drop c.parts.node-index c.args.nodes.now ≡ c.node-item.result ∷ drop (c.parts.node-index + 1) c.args.nodes.now
    = drop_more c.args.nodes.now c.parts.node-index c.node-item.result l ∙ ap (λ (n : Node). n ∷ drop (c.parts.node-index + 1) c.args.nodes.now) g in
    one_more c.node-item.result (drop (c.parts.node-index + 1) c.args.nodes.now) all c.parts.inner (reverse c.parts.outer.items) c.in_ok-inner.inner (reverse c.with_node.new.outer.items)
    (λ p h. c.in_ok-inner.ensures p h)
    (subst (λ (ns : List Node). IsLeft ns all c.parts.inner (reverse c.parts.outer.items)) e (c.parts.invariant all a))
