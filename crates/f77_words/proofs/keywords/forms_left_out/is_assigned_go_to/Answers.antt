use Rattle.std.proofs.Common.{◌≡◌, sym, ap, ◌∙◌, subst}
use Rattle.f77_expressions.specs.Symbols.{symbols_of}
use Rattle.f77_words.specs.keywords.FormsLeftOut.{AreEnclosed, without_comma}
use Rattle.f77_words.proofs.keywords.FormLaws.{empty_is, is_empty, assigned_name, assigned_alone, assigned_with_labels}
use Rattle.f77_words.proofs.keywords.forms_left_out.is_assigned_go_to.Goals as goal

pub returns-in_default-behind_name : goal.returns-in_default-behind_name
returns-in_default-behind_name c = (
  λ h. let z : ⊥ = cc in absurd z,
  λ h. let n = assigned_name (symbols_of c.args.text.now) (symbols_of c.in-Some.assigned.now) c.in-Some.ensures h in absurd (c.in_default-behind_name.ensures.only n.rest n.named),
)

pub returns-then-is_empty : goal.returns-then-is_empty
returns-then-is_empty c = (
  λ h. assigned_alone (symbols_of c.args.text.now) (symbols_of c.in-Some.assigned.now) (symbols_of c.in-Some-behind_name.rest.now) c.in-Some.ensures c.in-Some-behind_name.ensures.found
      (empty_is c.in-Some-behind_name.rest.now c.is_empty.result c.is_empty.ensures h),
  λ h. c.if-is_empty.true,
)

pub returns-else-is_empty : goal.returns-else-is_empty
returns-else-is_empty c = (
  λ h. assigned_with_labels (symbols_of c.args.text.now) (symbols_of c.in-Some.assigned.now) (symbols_of c.in-Some-behind_name.rest.now) c.in-Some.ensures c.in-Some-behind_name.ensures.found
      (subst AreEnclosed c.behind_comma.ensures (c.are_enclosed.ensures.0 h)),
  λ h. let n = assigned_name (symbols_of c.args.text.now) (symbols_of c.in-Some.assigned.now) c.in-Some.ensures h in
      let r : symbols_of c.in-Some-behind_name.rest.now ≡ n.rest = c.in-Some-behind_name.ensures.only n.rest n.named in
      c.are_enclosed.ensures.1 (subst AreEnclosed (ap without_comma (sym r) ∙ sym c.behind_comma.ensures)
      (n.holds (λ e. let k = is_empty c.in-Some-behind_name.rest.now c.is_empty.result c.is_empty.ensures (r ∙ e) in let f = c.if-is_empty.false in let z : ⊥ = cc in z))),
)
