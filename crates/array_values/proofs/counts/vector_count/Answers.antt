use Rattle.std.proofs.Common.{refl, sym, ap, ◌∙◌, pos, get_or, arith, rules, SFits}
use Rattle.std.specs.Int.{w128}
use Rattle.meaning.specs.Sections.{is_within_bounds}
use Rattle.array_values.specs.Counts.{range_in}
use Rattle.array_values.proofs.Steps.{settled}
use Rattle.array_values.proofs.Counting.{vector_out, vector_next, vector_all}
use Rattle.array_values.proofs.counts.vector_count.Goals as goal

pub loop-number-init : goal.loop-number-init
loop-number-init c = refl

pub returns-then-not-is_within : goal.returns-then-not-is_within
returns-then-not-is_within c =
    let b = range_in c.args.range in
    let x = get_or c.args.numbers.now c.loop-number.number-index (pos 0) in
    let fits : SFits w128 x = search rules in
    vector_out b c.args.numbers.now c.loop-number.number-index c.loop-number.invariant (omega arith)
    (ap (is_within_bounds b) (sym (settled x fits)) ∙ (sym c.is_within.ensures ∙ c.if-not-is_within.true))

pub loop-number-preserved : goal.loop-number-preserved
loop-number-preserved c =
    let b = range_in c.args.range in
    let x = get_or c.args.numbers.now c.loop-number.number-index (pos 0) in
    let fits : SFits w128 x = search rules in
    vector_next b c.args.numbers.now c.loop-number.number-index c.loop-number.invariant (omega arith)
    (ap (is_within_bounds b) (sym (settled x fits)) ∙ (sym c.is_within.ensures ∙ c.if-not-is_within.false))

pub returns : goal.returns
returns c = vector_all (range_in c.args.range) c.args.numbers.now c.loop-number.number-index c.loop-number.invariant (omega arith)
