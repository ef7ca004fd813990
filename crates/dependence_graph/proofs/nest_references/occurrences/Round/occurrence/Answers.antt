use Rattle.std.proofs.Common.{◌≡◌, ℕ, List, subst, sym, ap, ◌∙◌}
use Rattle.tree.specs.Plain.{Reference}
use Rattle.tree.specs.View.{reference_of}
use Rattle.tree.proofs.Equations.{reference_of-is}
use Rattle.dependence_graph.specs.nest_references.Occurrences.{AreFormsIn}
use Rattle.dependence_graph.proofs.nest_references.occurrences.Round.occurrence.Goals as goal

pub returns-clause-kept : goal.returns-clause-kept
returns-clause-kept c = λ s r. record {
  name = sym (ap (λ (q : Reference). q.name) (reference_of-is c.args.item.now));
  loops = c.in_ok-copy_numbers.ensures ∙ r.loops;
  spans = c.in_ok-copy_spans.ensures ∙ r.spans;
  forms = subst (λ (names : List (List ℕ)). AreFormsIn names c.args.symbols.now (reference_of c.args.item.now).subscripts c.in_ok-forms_of.field-0) (c.as_slice.ensures ∙ r.names)
      c.in_ok-forms_of.ensures.forms;
  seven = c.in_ok-forms_of.ensures.seven;
}
