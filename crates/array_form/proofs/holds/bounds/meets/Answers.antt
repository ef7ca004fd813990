use Rattle.std.proofs.Common.{◌∙◌, ap, length, subst, sym, ◌==◌}
use Rattle.std.specs.Cmp.Lexicographic.{pointwise}
use Rattle.array_form.specs.holds.Bounds.{subscripts_of}
use Rattle.array_form.specs.holds.Noted.{AreBounded}
use Rattle.array_form.proofs.holds.SafeLaws.{as_deep, same_loops}
use Rattle.array_form.proofs.holds.bounds.meets.Goals as goal

pub returns : goal.returns
returns c = λ n y f few h i.
    let numbers = c.same_numbers.ensures ∙ ap (λ ks. pointwise (λ k j. k == j) ks c.args.loops.now) c.as_slice.ensures in
    same_loops n y c.args.noted.now c.args.loops.now f c.args.bounds i c.same_numbers.result c.has_equal.result c.if-noted.false numbers c.if-not-same_numbers.false
    (c.has_equal.ensures (length c.args.loops.now) f (subscripts_of n y) few h
    (subst (AreBounded (length c.args.loops.now) (subscripts_of n y)) (sym c.as_slice-2.ensures) (as_deep n y c.args.noted.now c.args.loops.now f c.args.bounds i c.same_numbers.result numbers c.if-not-same_numbers.false)))
