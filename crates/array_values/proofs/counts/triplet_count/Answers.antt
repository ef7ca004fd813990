use Rattle.std.proofs.Common.{◌≡◌, sym, ap, ◌∙◌, refl, ◌+◌, true, arith, rules, SFits}
use Rattle.std.specs.Int.{w64, w128}
use Rattle.std.proofs.lemmas.Int.{ints}
use Rattle.meaning.specs.Sections.{is_within_bounds}
use Rattle.array_values.specs.Counts.{range_in, behind, strides}
use Rattle.array_values.specs.Selections.{goes_on}
use Rattle.array_values.proofs.Steps.{settled}
use Rattle.array_values.proofs.Counting.{none_counted, first_outside, last_outside, all_counted, few_strides, goes_same, strides_same, behind_same}
use Rattle.array_values.proofs.counts.triplet_count.Goals as goal

pub returns-then-not-goes_on : goal.returns-then-not-goes_on
returns-then-not-goes_on c =
    let l = settled c.args.lower c.ranges.lower in
    let u = settled c.args.upper c.ranges.upper in
    let s = settled c.args.stride c.ranges.stride in
    none_counted (range_in c.args.range) c.args.lower c.args.upper c.args.stride c.requires
    (sym (goes_same c.args.lower c.args.upper c.args.stride _ _ _ l u s) ∙ (sym c.goes_on.ensures ∙ c.if-not-goes_on.true))

pub last_number-last-requires-clause-nonzero : goal.last_number-last-requires-clause-nonzero
last_number-last-requires-clause-nonzero c h = c.requires (sym (settled c.args.stride c.ranges.stride) ∙ h)

pub last_number-last-requires-clause-goes : goal.last_number-last-requires-clause-goes
last_number-last-requires-clause-goes c = sym c.goes_on.ensures ∙ c.if-not-goes_on.false

pub returns-then-not-is_within : goal.returns-then-not-is_within
returns-then-not-is_within c =
    let b = range_in c.args.range in
    let l = settled c.args.lower c.ranges.lower in
    let u = settled c.args.upper c.ranges.upper in
    let s = settled c.args.stride c.ranges.stride in
    let g : goes_on c.args.lower c.args.upper c.args.stride ≡ true
    = sym (goes_same c.args.lower c.args.upper c.args.stride _ _ _ l u s) ∙ (sym c.goes_on.ensures ∙ c.if-not-goes_on.false) in
    first_outside b c.args.lower c.args.upper c.args.stride c.requires g
    (ap (is_within_bounds b) (sym l) ∙ (sym c.is_within.ensures ∙ c.if-not-is_within.true))

pub returns-then-not-is_within-2 : goal.returns-then-not-is_within-2
returns-then-not-is_within-2 c =
    let b = range_in c.args.range in
    let l = settled c.args.lower c.ranges.lower in
    let u = settled c.args.upper c.ranges.upper in
    let s = settled c.args.stride c.ranges.stride in
    let z = c.last_number-last.result in
    let fits : SFits w128 z = search rules in
    let g : goes_on c.args.lower c.args.upper c.args.stride ≡ true
    = sym (goes_same c.args.lower c.args.upper c.args.stride _ _ _ l u s) ∙ (sym c.goes_on.ensures ∙ c.if-not-goes_on.false) in
    last_outside b c.args.lower c.args.upper c.args.stride c.requires g z
    (c.last_number-last.ensures ∙ behind_same c.args.lower c.args.upper c.args.stride _ _ _ l u s)
    (ap (is_within_bounds b) (sym (settled z fits)) ∙ (sym c.is_within-2.ensures ∙ c.if-not-is_within-2.true))

pub strides-requires : goal.strides-requires
strides-requires c h = c.requires (sym (settled c.args.stride c.ranges.stride) ∙ h)

pub overflow_add-result : goal.overflow_add-result
overflow_add-result c =
    let r = c.args.range in
    let b = range_in r in
    let low : SFits w64 r.lower = search rules in
    let high : SFits w128 r.upper = search rules in
    let l = settled c.args.lower c.ranges.lower in
    let u = settled c.args.upper c.ranges.upper in
    let s = settled c.args.stride c.ranges.stride in
    let z = c.last_number-last.result in
    let fits : SFits w128 z = search rules in
    let at : z ≡ behind c.args.lower c.args.stride (strides c.args.lower c.args.upper c.args.stride)
    = c.last_number-last.ensures ∙ behind_same c.args.lower c.args.upper c.args.stride _ _ _ l u s in
    let few = few_strides b c.args.lower c.args.stride (strides c.args.lower c.args.upper c.args.stride) c.requires (omega (arith, ints)) (omega (arith, ints))
    (ap (is_within_bounds b) (sym l) ∙ (sym c.is_within.ensures ∙ c.if-not-is_within.false))
    (ap (is_within_bounds b) (sym at ∙ sym (settled z fits)) ∙ (sym c.is_within-2.ensures ∙ c.if-not-is_within-2.false)) in
    let k : c.strides.result ≡ strides c.args.lower c.args.upper c.args.stride
    = c.strides.ensures ∙ strides_same c.args.lower c.args.upper c.args.stride _ _ _ l u s in
    omega (arith, few, k)

pub returns : goal.returns
returns c =
    let b = range_in c.args.range in
    let l = settled c.args.lower c.ranges.lower in
    let u = settled c.args.upper c.ranges.upper in
    let s = settled c.args.stride c.ranges.stride in
    let z = c.last_number-last.result in
    let fits : SFits w128 z = search rules in
    let g : goes_on c.args.lower c.args.upper c.args.stride ≡ true
    = sym (goes_same c.args.lower c.args.upper c.args.stride _ _ _ l u s) ∙ (sym c.goes_on.ensures ∙ c.if-not-goes_on.false) in
    all_counted b c.args.lower c.args.upper c.args.stride c.requires g z c.strides.result (c.strides.result + 1)
    (c.last_number-last.ensures ∙ behind_same c.args.lower c.args.upper c.args.stride _ _ _ l u s)
    (ap (is_within_bounds b) (sym l) ∙ (sym c.is_within.ensures ∙ c.if-not-is_within.false))
    (ap (is_within_bounds b) (sym (settled z fits)) ∙ (sym c.is_within-2.ensures ∙ c.if-not-is_within-2.false))
    (c.strides.ensures ∙ strides_same c.args.lower c.args.upper c.args.stride _ _ _ l u s)
    refl
