use Rattle.f77_expressions.specs.Symbols.{symbols_of}
use Rattle.f77_words.proofs.keywords.FormLaws.{is_empty, arithmetic_found, arithmetic_only}
use Rattle.f77_words.proofs.keywords.forms_left_out.is_arithmetic_if.Goals as goal

pub returns-then-not-is_empty : goal.returns-then-not-is_empty
returns-then-not-is_empty c = (
  λ h. arithmetic_found (symbols_of c.args.text.now) (symbols_of c.in-Some.opened.now) (symbols_of c.in-Some-cut_at_close.condition.now) (symbols_of c.in-Some-cut_at_close.rest.now)
      c.in-Some.ensures c.in-Some-cut_at_close.ensures
      (λ e. let k = is_empty c.in-Some-cut_at_close.condition.now c.is_empty.result c.is_empty.ensures e in let f = c.if-not-is_empty.true in let z : ⊥ = cc in z)
      (c.are_three_labels.ensures.0 h),
  λ h. c.are_three_labels.ensures.1 (arithmetic_only (symbols_of c.args.text.now) (symbols_of c.in-Some.opened.now) (symbols_of c.in-Some-cut_at_close.condition.now)
      (symbols_of c.in-Some-cut_at_close.rest.now) c.in-Some.ensures c.in-Some-cut_at_close.ensures h),
)
