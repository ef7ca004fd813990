use Rattle.std.proofs.Common.{◌≡◌, ◌&&◌, ◌+ℤ◌, rules}
use Rattle.std.specs.Prelude.{int_le}
use Rattle.tree.specs.View.{bounds_of}
use Rattle.array_form.proofs.holds.BoxLaws.{box_of_ends, empty_box, ends_small, not_constant, not_unused}
use Rattle.array_form.proofs.holds.boxes.is_in_box.Goals as goal

pub returns-then-not-are_unused : goal.returns-then-not-are_unused
returns-then-not-are_unused c = λ f h.
    not_unused c.args.loops.now f c.args.form.now (bounds_of c.args.bounds) h c.are_unused.result c.are_unused.ensures c.if-not-are_unused.true

pub returns-then-not-are_constant : goal.returns-then-not-are_constant
returns-then-not-are_constant c = λ f h.
    not_constant c.args.loops.now f c.args.form.now (bounds_of c.args.bounds) h c.are_unused.result c.are_constant.result c.are_unused.ensures c.if-not-are_unused.false c.are_constant.ensures c.if-not-are_constant.true

pub returns-in_default : goal.returns-in_default
returns-in_default c = λ f h.
    empty_box c.args.loops.now f c.args.form.now (bounds_of c.args.bounds) h c.are_unused.result c.are_constant.result c.are_unused.ensures c.if-not-are_unused.false c.are_constant.ensures c.if-not-are_constant.false
    c.ends_over.result c.ends_over.ensures c.in_default.is

pub lie_between-requires-clause-least : goal.lie_between-requires-clause-least
lie_between-requires-clause-least c =
    (ends_small _ c.args.loops.now c.args.form.now.loops c.ends_over.result c.in-Some.ends c.requires.few c.ends_over.ensures c.in-Some.is).0

pub lie_between-requires-clause-greatest : goal.lie_between-requires-clause-greatest
lie_between-requires-clause-greatest c =
    (ends_small _ c.args.loops.now c.args.form.now.loops c.ends_over.result c.in-Some.ends c.requires.few c.ends_over.ensures c.in-Some.is).1

pub returns : goal.returns
returns c =
    let answer : c.lie_between.result ≡ (int_le c.args.bounds.lower (c.in-Some.ends.least +ℤ c.args.form.now.constant) && int_le (c.in-Some.ends.greatest +ℤ c.args.form.now.constant) c.args.bounds.upper) = search rules in
    λ f h.
    box_of_ends c.args.loops.now f c.args.form.now (bounds_of c.args.bounds) h c.are_unused.result c.are_constant.result c.lie_between.result c.ends_over.result c.in-Some.ends c.are_unused.ensures c.if-not-are_unused.false c.are_constant.ensures
    c.if-not-are_constant.false c.ends_over.ensures c.in-Some.is answer
