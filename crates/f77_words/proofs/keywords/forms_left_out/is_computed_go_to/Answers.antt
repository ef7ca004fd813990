use Rattle.std.proofs.Common.{sym, ◌∙◌}
use Rattle.std.proofs.lemmas.Bool.{not_from_false, false_from_ne_true}
use Rattle.f77_expressions.specs.Symbols.{symbols_of}
use Rattle.f77_words.proofs.keywords.FormLaws.{empty_is, is_some, computed_enclosed, enclosed_list, enclosed_found, not_closed, closed_same, computed_found, computed_index}
use Rattle.f77_words.proofs.keywords.forms_left_out.is_computed_go_to.Goals as goal

pub returns-in_default-labels : goal.returns-in_default-labels
returns-in_default-labels c = (
  λ h. let z : ⊥ = cc in absurd z,
  λ h. let e = computed_enclosed (symbols_of c.args.text.now) (symbols_of c.in-Some.list.now) h c.in-Some.ensures in
      absurd (c.in_default-labels.ensures.only _ _ (enclosed_list (symbols_of c.in-Some.list.now) _ e)),
)

pub returns-in_default-strip : goal.returns-in_default-strip
returns-in_default-strip c = (
  λ h. let z : ⊥ = cc in absurd z,
  λ h. let e = computed_enclosed (symbols_of c.args.text.now) (symbols_of c.in-Some.list.now) h c.in-Some.ensures in
      absurd (not_closed (symbols_of c.in-Some-labels.enclosed.now) _ c.in_default-strip.ensures (c.in-Some-labels.ensures.only _ _ (enclosed_list (symbols_of c.in-Some.list.now) _ e)).1),
)

pub returns : goal.returns
returns c = (
  λ h. computed_found (symbols_of c.args.text.now) (symbols_of c.in-Some.list.now) (symbols_of c.in-Some-strip.rest.now) c.in-Some.ensures
      (enclosed_found (symbols_of c.in-Some.list.now) (symbols_of c.in-Some-labels.enclosed.now) (symbols_of c.in-Some-strip.rest.now) c.in-Some-labels.field-0-0 c.in-Some-labels.ensures.found c.in-Some-strip.ensures)
      (λ n. is_some c.behind_comma.result.now c.is_empty.result c.is_empty.ensures h (c.behind_comma.ensures ∙ n)),
  λ h. let e = computed_enclosed (symbols_of c.args.text.now) (symbols_of c.in-Some.list.now) h c.in-Some.ensures in
      let r = closed_same (symbols_of c.in-Some-labels.enclosed.now) (symbols_of c.in-Some-strip.rest.now) _ c.in-Some-strip.ensures (c.in-Some-labels.ensures.only _ _ (enclosed_list (symbols_of c.in-Some.list.now) _ e)).1 in
      not_from_false c.is_empty.result (false_from_ne_true c.is_empty.result (λ t. computed_index (symbols_of c.args.text.now) (symbols_of c.in-Some-strip.rest.now) h r (sym c.behind_comma.ensures ∙ empty_is c.behind_comma.result.now c.is_empty.result c.is_empty.ensures t))),
)
