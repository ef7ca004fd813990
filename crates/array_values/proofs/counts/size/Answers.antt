use Rattle.std.proofs.Common.{◌≡◌, sym, ap, ◌∙◌, ◌+◌, ◌-ℤ◌, ◌≤ℤ◌, ◌<ℤ◌, arith, rules, SFits}
use Rattle.std.specs.Prelude.{nat_abs}
use Rattle.std.specs.Int.{w64, w128}
use Rattle.std.proofs.lemmas.Int.{ints}
use Rattle.array_values.specs.Counts.{range_in}
use Rattle.array_values.proofs.Counting.{size_up, size_none}
use Rattle.array_values.proofs.counts.size.Goals as goal

pub returns-then-range-lower : goal.returns-then-range-lower
returns-then-range-lower c =
    let r = c.args.range in
    let low : SFits w64 r.lower = search rules in
    let high : SFits w128 r.upper = search rules in
    let l : r.upper <ℤ r.lower = omega (arith, ints) in
    sym (size_none (range_in r) l)

pub overflow_add-result : goal.overflow_add-result
overflow_add-result c =
    let r = c.args.range in
    let low : SFits w64 r.lower = search rules in
    let high : SFits w128 r.upper = search rules in
    omega (arith, ints)

pub returns : goal.returns
returns c =
    let r = c.args.range in
    let low : SFits w64 r.lower = search rules in
    let high : SFits w128 r.upper = search rules in
    let l : r.lower ≤ℤ r.upper = omega (arith, ints) in
    let e : c.abs_diff.result ≡ nat_abs (r.upper -ℤ r.lower) = omega (arith, ints) in
    ap (λ n. n + 1) e ∙ sym (size_up (range_in r) l)
