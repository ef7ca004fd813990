use Rattle.std.proofs.Common.{[]}
use Rattle.f77_expressions.specs.Symbols.{symbols_of}
use Rattle.f77_words.proofs.keywords.FormLaws.{empty_is, is_empty, enclosed_of, of_enclosed, enclosed_list, enclosed_found, not_closed, closed_same, nothing_behind}
use Rattle.f77_words.proofs.keywords.forms_left_out.are_enclosed.Goals as goal

pub returns-in_default-labels : goal.returns-in_default-labels
returns-in_default-labels c = (
  λ h. let z : ⊥ = cc in absurd z,
  λ h. let e = of_enclosed (symbols_of c.args.text.now) (symbols_of c.in-Some.list.now) c.in-Some.ensures h in
      absurd (c.in_default-labels.ensures.only _ _ (enclosed_list (symbols_of c.in-Some.list.now) [] e)),
)

pub returns-in_default-strip : goal.returns-in_default-strip
returns-in_default-strip c = (
  λ h. let z : ⊥ = cc in absurd z,
  λ h. let e = of_enclosed (symbols_of c.args.text.now) (symbols_of c.in-Some.list.now) c.in-Some.ensures h in
      absurd (not_closed (symbols_of c.in-Some-labels.enclosed.now) [] c.in_default-strip.ensures (c.in-Some-labels.ensures.only _ _ (enclosed_list (symbols_of c.in-Some.list.now) [] e)).1),
)

pub returns : goal.returns
returns c = (
  λ h. enclosed_of (symbols_of c.args.text.now) (symbols_of c.in-Some.list.now) c.in-Some.ensures
      (nothing_behind (symbols_of c.in-Some-strip.rest.now) (empty_is c.in-Some-strip.rest.now c.is_empty.result c.is_empty.ensures h) (symbols_of c.in-Some.list.now)
      (enclosed_found (symbols_of c.in-Some.list.now) (symbols_of c.in-Some-labels.enclosed.now) (symbols_of c.in-Some-strip.rest.now) c.in-Some-labels.field-0-0 c.in-Some-labels.ensures.found c.in-Some-strip.ensures)),
  λ h. let e = of_enclosed (symbols_of c.args.text.now) (symbols_of c.in-Some.list.now) c.in-Some.ensures h in
      is_empty c.in-Some-strip.rest.now c.is_empty.result c.is_empty.ensures
      (closed_same (symbols_of c.in-Some-labels.enclosed.now) (symbols_of c.in-Some-strip.rest.now) [] c.in-Some-strip.ensures (c.in-Some-labels.ensures.only _ _ (enclosed_list (symbols_of c.in-Some.list.now) [] e)).1),
)
