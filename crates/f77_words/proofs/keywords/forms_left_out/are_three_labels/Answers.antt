use Rattle.std.proofs.Common.{[]}
use Rattle.std.proofs.lemmas.Bool.{eqb-true}
use Rattle.f77_expressions.specs.Symbols.{symbols_of}
use Rattle.f77_words.proofs.keywords.FormLaws.{empty_is, is_empty, three_found, three_only}
use Rattle.f77_words.proofs.keywords.forms_left_out.are_three_labels.Goals as goal

pub returns-then-others-eq2 : goal.returns-then-others-eq2
returns-then-others-eq2 c = (
  λ h. three_found (symbols_of c.args.text.now) (symbols_of c.in-Some.rest.now) c.in-Some.others c.in-Some.ensures.found c.if-others-eq2.true (empty_is c.in-Some.rest.now c.is_empty.result c.is_empty.ensures h),
  λ h. is_empty c.in-Some.rest.now c.is_empty.result c.is_empty.ensures (c.in-Some.ensures.only 2 [] (three_only (symbols_of c.args.text.now) h)).1,
)

pub returns-else-others-eq2 : goal.returns-else-others-eq2
returns-else-others-eq2 c = (
  λ h. absurd (c.if-others-eq2.false (eqb-true c.in-Some.others 2 h)),
  λ h. absurd (c.if-others-eq2.false (c.in-Some.ensures.only 2 [] (three_only (symbols_of c.args.text.now) h)).0),
)

pub returns-in-None : goal.returns-in-None
returns-in-None c = (λ h. let z : ⊥ = cc in absurd z, λ h. absurd (c.in-None.ensures.only 2 [] (three_only (symbols_of c.args.text.now) h)))
