use Rattle.std.proofs.Common.{◌≡◌, pos, ◌-ℤ◌, ◌≤ℤ◌, ◌<ℤ◌, arith}
use Rattle.std.specs.Prelude.{nat_abs}
use Rattle.std.proofs.lemmas.Int.{ints}
use Rattle.array_values.proofs.Counting.{some_stride, goes_up, goes_down, last_is_up, last_is_down}
use Rattle.array_values.proofs.counts.last_number.Goals as goal

pub nonzero_rem-rest : goal.nonzero_rem-rest
nonzero_rem-rest c = let k = some_stride c.args.stride c.requires.nonzero in omega (arith, ints)

pub overflow_cast-rest : goal.overflow_cast-rest
overflow_cast-rest c = let k = some_stride c.args.stride c.requires.nonzero in omega (arith, ints)

pub overflow_sub-result : goal.overflow_sub-result
overflow_sub-result c =
    let k = some_stride c.args.stride c.requires.nonzero in
    let p : pos 0 <ℤ c.args.stride = omega (arith, ints) in
    let l = goes_up c.args.lower c.args.upper c.args.stride p c.requires.goes in
    omega (arith, ints)

pub returns-then-stride-gt0 : goal.returns-then-stride-gt0
returns-then-stride-gt0 c =
    let k = some_stride c.args.stride c.requires.nonzero in
    let p : pos 0 <ℤ c.args.stride = omega (arith, ints) in
    let l = goes_up c.args.lower c.args.upper c.args.stride p c.requires.goes in
    let d : c.abs_diff.result ≡ nat_abs (c.args.upper -ℤ c.args.lower) = omega (arith, ints) in
    let n : c.unsigned_abs.result ≡ nat_abs c.args.stride = omega (arith, ints) in
    omega (arith, ints, last_is_up c.args.lower c.args.upper c.args.stride c.abs_diff.result c.unsigned_abs.result p c.requires.goes d n)

pub overflow_add-result : goal.overflow_add-result
overflow_add-result c =
    let k = some_stride c.args.stride c.requires.nonzero in
    let p : c.args.stride ≤ℤ pos 0 = omega (arith, ints) in
    let l = goes_down c.args.lower c.args.upper c.args.stride p c.requires.goes in
    omega (arith, ints)

pub returns : goal.returns
returns c =
    let k = some_stride c.args.stride c.requires.nonzero in
    let p : c.args.stride ≤ℤ pos 0 = omega (arith, ints) in
    let l = goes_down c.args.lower c.args.upper c.args.stride p c.requires.goes in
    let d : c.abs_diff.result ≡ nat_abs (c.args.upper -ℤ c.args.lower) = omega (arith, ints) in
    let n : c.unsigned_abs.result ≡ nat_abs c.args.stride = omega (arith, ints) in
    omega (arith, ints, last_is_down c.args.lower c.args.upper c.args.stride c.abs_diff.result c.unsigned_abs.result p c.requires.nonzero c.requires.goes d n)
