use Rattle.std.proofs.Common.{arith, subst, sym, List, map}
use Rattle.tree.specs.Plain.{subscripts}
use Rattle.tree.specs.View.{subscript_of}
use Rattle.tree.specs.declared.exprs.Sub.{Sub}
use Rattle.dependence_graph.specs.nest_graph.Ready.{AreElements}
use Rattle.std.proofs.lemmas.Bool.Decides.{nat_tests}
use Rattle.dependence_graph.proofs.nest_ready.RankLaws.{is_element_iff}
use Rattle.dependence_graph.proofs.nest_ready.references.is_element.Goals as goal

pub returns : goal.returns
returns c =
    is_element_iff c.args.item.now c.both_true.result (
      λ t.
          let b = c.both_true.ensures.0 t in
          (grind (arith, nat_tests, b.0), subst (λ (ss : List Sub). AreElements (subscripts (map subscript_of ss))) c.as_slice.ensures (c.are_elements.ensures.0 b.1)),
      λ h.
          c.both_true.ensures.1 (
            grind (arith, nat_tests, h.0),
            c.are_elements.ensures.1 (subst (λ (ss : List Sub). AreElements (subscripts (map subscript_of ss))) (sym c.as_slice.ensures) h.1),
          ),
    )
