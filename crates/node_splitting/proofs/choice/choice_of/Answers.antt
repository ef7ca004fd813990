use Rattle.std.proofs.Common.{◌≡◌, ◌↔◌, true, ap, ◌∙◌, sym, subst, not, ◌&&◌, List}
use Rattle.dependence_graph.specs.declared.graphs.Place.{Place}
use Rattle.node_splitting.specs.Choice.{MayBeCopied, fed_in, is_listed, overwritten_in}
use Rattle.node_splitting.proofs.Choices.{choice_is_right}
use Rattle.node_splitting.proofs.choice.choice_of.Goals as goal

pub returns : goal.returns
returns c = λ p.
    let classes = c.in_ok-classes.classes in
    let fed = c.in_ok-fed.ensures ∙ ap (λ cs. fed_in cs c.args.edges.now) c.as_slice-2.ensures in
    let overwritten = c.in_ok-overwritten.ensures ∙ ap (λ cs. overwritten_in cs c.args.edges.now) c.as_slice.ensures in
    let right = choice_is_right c.in_ok-classes.ensures.0 c.args.edges.now classes c.in_ok-classes.ensures.1 c.in_ok-classes.ensures.2 p in
    subst (λ (ps : List Place). ((is_listed ps p && not (is_listed c.in_ok-fed.fed p)) ≡ true) ↔ MayBeCopied c.args.edges.now p) (sym overwritten)
    (subst (λ (ps : List Place). ((is_listed (overwritten_in classes c.args.edges.now) p && not (is_listed ps p)) ≡ true) ↔ MayBeCopied c.args.edges.now p) (sym fed) right)
