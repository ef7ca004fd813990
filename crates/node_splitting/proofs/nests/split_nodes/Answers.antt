use Rattle.std.proofs.Common.{◌≡◌, ◌∙◌, ◌↔◌, [], List, true, ap, map, rules, subst, sym}
use Rattle.dependence_graph.specs.declared.graphs.Edge.{Edge}
use Rattle.dependence_graph.specs.declared.graphs.Place.{Place}
use Rattle.nest.specs.View.{made_of, nest_of}
use Rattle.nest.specs.declared.nests.Made.{Made}
use Rattle.node_splitting.specs.Choice.{MayBeCopied}
use Rattle.node_splitting.specs.View.{may_of}
use Rattle.node_splitting.proofs.AddedTexts.{map_filled, none_split, some_split}
use Rattle.node_splitting.proofs.nests.split_nodes.Goals as goal

pub returns-then-is_empty : goal.returns-then-is_empty
returns-then-is_empty c =
    let may = may_of c.in_ok-choice.choice in
    let none : c.in_ok-plan.plan.arrays ≡ [] = search rules in
    record {
      may = may;
      by_graph = subst (λ (es : List Edge). (p : Place) → (may p ≡ true) ↔ MayBeCopied es p) c.as_slice.ensures c.in_ok-choice.ensures;
      is = none_split may (nest_of c.args.nest.now) (sym c.in_ok-plan.ensures.arrays ∙ ap (λ (as' : List Made). map made_of as') none);
    }

pub returns : goal.returns
returns c =
    let may = may_of c.in_ok-choice.choice in
    let filled : c.in_ok-plan.plan.arrays ≡ [] → ⊥ = search rules in
    record {
      may = may;
      by_graph = subst (λ (es : List Edge). (p : Place) → (may p ≡ true) ↔ MayBeCopied es p) c.as_slice.ensures c.in_ok-choice.ensures;
      is =
          some_split may (nest_of c.args.nest.now) (nest_of c.in_ok-split_by.field-0) (map made_of c.in_ok-plan.plan.arrays) c.in_ok-plan.ensures.arrays
          (map_filled made_of c.in_ok-plan.plan.arrays filled) (c.in_ok-split_by.ensures c.in_ok-plan.ensures.firsts c.in_ok-plan.ensures.copies);
    }
