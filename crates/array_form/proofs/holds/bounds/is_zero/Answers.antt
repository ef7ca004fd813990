use Rattle.std.proofs.Common.{◌≡◌, pos, rules}
use Rattle.std.specs.Ordering.{int_eq}
use Rattle.array_form.proofs.holds.SameLaws.{zero_else, zero_not, zero_then}
use Rattle.array_form.proofs.holds.bounds.is_zero.Goals as goal

pub returns-then-not-are_zero : goal.returns-then-not-are_zero
returns-then-not-are_zero c = λ n f few h. zero_else n f c.args.form.now c.are_zero.result h c.are_zero.ensures c.if-not-are_zero.true

pub returns-then-not-are_unused : goal.returns-then-not-are_unused
returns-then-not-are_unused c = λ n f few h.
    zero_not n f c.args.form.now c.are_zero.result c.are_unused.result h c.are_zero.ensures c.if-not-are_zero.false c.are_unused.ensures c.if-not-are_unused.true

pub returns : goal.returns
returns c =
    let constant : c.is_nought.result ≡ int_eq c.args.form.now.constant (pos 0) = search rules in
    λ n f few h.
    zero_then n f c.args.form.now c.are_zero.result c.are_unused.result c.is_nought.result h c.are_zero.ensures c.if-not-are_zero.false c.are_unused.ensures c.if-not-are_unused.false constant
