use Rattle.std.proofs.Common.{◌≡◌, sym, ap, subst, ◌∙◌, pos, Ok, arith, rules, SFits}
use Rattle.std.specs.Int.{w128}
use Rattle.std.proofs.lemmas.Int.{ints}
use Rattle.meaning.specs.Sections.{axis_on, along, is_within_bounds}
use Rattle.array_values.specs.Counts.{CountsAlong, range_in}
use Rattle.array_values.specs.Selections.{selector_in}
use Rattle.array_values.proofs.Steps.{residual, settled}
use Rattle.array_values.proofs.Triplets.{triplet_same}
use Rattle.array_values.proofs.ExtentCounts.{index_out, index_within, zero_step, triplet_some, triplet_none}
use Rattle.array_values.proofs.counts.count_on.Goals as goal

pub returns-then-not-is_within : goal.returns-then-not-is_within
returns-then-not-is_within c =
    let b = range_in c.args.range in
    let z = c.in-Index.number in
    let fits : SFits w128 z = search rules in
    ap (λ p. axis_on b (selector_in p)) c.in-Index.is
    ∙ index_out b z (ap (is_within_bounds b) (sym (settled z fits)) ∙ (sym c.is_within.ensures ∙ c.if-not-is_within.true))

pub returns-else-not-is_within : goal.returns-else-not-is_within
returns-else-not-is_within c =
    let b = range_in c.args.range in
    let z = c.in-Index.number in
    let fits : SFits w128 z = search rules in
    let h = index_within b z (ap (is_within_bounds b) (sym (settled z fits)) ∙ (sym c.is_within.ensures ∙ c.if-not-is_within.false)) in
    (h.0, ap (λ p. axis_on b (selector_in p)) c.in-Index.is ∙ h.1)

pub returns-then-stride-eq0 : goal.returns-then-stride-eq0
returns-then-stride-eq0 c =
    let b = range_in c.args.range in
    let s : c.in-Triplet.stride ≡ pos 0 = omega (arith, ints) in
    ap (λ p. axis_on b (selector_in p)) c.in-Triplet.is ∙ zero_step b c.in-Triplet.lower c.in-Triplet.upper c.in-Triplet.stride s

pub triplet_count-requires : goal.triplet_count-requires
triplet_count-requires c h =
    let fits : SFits w128 c.in-Triplet.stride = search rules in
    let e : c.in-Triplet.stride ≡ pos 0 = sym (settled c.in-Triplet.stride fits) ∙ h in
    omega (arith, ints)

pub returns-in_err-triplet_count-in-Triplet : goal.returns-in_err-triplet_count-in-Triplet
returns-in_err-triplet_count-in-Triplet c =
    let b = range_in c.args.range in
    let l = c.in-Triplet.lower in
    let u = c.in-Triplet.upper in
    let s = c.in-Triplet.stride in
    let low : SFits w128 l = search rules in
    let high : SFits w128 u = search rules in
    let step : SFits w128 s = search rules in
    let nonzero : s ≡ pos 0 → ⊥ = λ h. omega (arith, ints) in
    rw (residual c.from_residual.ensures.1)
    (ap (λ p. axis_on b (selector_in p)) c.in-Triplet.is
    ∙ triplet_none b l u s c.in_err-triplet_count-in-Triplet.field-0.0 nonzero
    (ap (along b) (triplet_same l u s _ _ _ (settled l low) (settled u high) (settled s step)) ∙ c.in_err-triplet_count-in-Triplet.ensures))

pub returns-in_ok-triplet_count-in-Triplet : goal.returns-in_ok-triplet_count-in-Triplet
returns-in_ok-triplet_count-in-Triplet c =
    let b = range_in c.args.range in
    let l = c.in-Triplet.lower in
    let u = c.in-Triplet.upper in
    let s = c.in-Triplet.stride in
    let n = c.in_ok-triplet_count-in-Triplet.field-0 in
    let low : SFits w128 l = search rules in
    let high : SFits w128 u = search rules in
    let step : SFits w128 s = search rules in
    let nonzero : s ≡ pos 0 → ⊥ = λ h. omega (arith, ints) in
    let h = triplet_some b l u s n nonzero
    (subst (λ zs. CountsAlong b zs (Ok n)) (sym (triplet_same l u s _ _ _ (settled l low) (settled u high) (settled s step))) c.in_ok-triplet_count-in-Triplet.ensures) in
    (h.0, ap (λ p. axis_on b (selector_in p)) c.in-Triplet.is ∙ h.1, h.2)

pub returns-in_err-vector_count-in-Vector : goal.returns-in_err-vector_count-in-Vector
returns-in_err-vector_count-in-Vector c =
    let b = range_in c.args.range in
    rw (residual c.from_residual-in_err-vector_count-in-Vector.ensures.1)
    (ap (λ p. axis_on b (selector_in p)) c.in-Vector.is ∙ (ap (along b) (sym c.as_slice.ensures) ∙ c.in_err-vector_count-in-Vector.ensures))

pub returns-in_ok-vector_count-in-Vector : goal.returns-in_ok-vector_count-in-Vector
returns-in_ok-vector_count-in-Vector c =
    let b = range_in c.args.range in
    let n = c.in_ok-vector_count-in-Vector.field-0 in
    let h = subst (λ zs. CountsAlong b zs (Ok n)) c.as_slice.ensures c.in_ok-vector_count-in-Vector.ensures in
    (c.in-Vector.numbers, ap (λ p. axis_on b (selector_in p)) c.in-Vector.is ∙ h.0, h.1)
