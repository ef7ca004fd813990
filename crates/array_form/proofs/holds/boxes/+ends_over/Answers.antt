use Rattle.std.proofs.Common.{◌≡◌, ◌∷◌, pos, rules}
use Rattle.std.specs.Ordering.{int_eq}
use Rattle.array_form.specs.holds.Boxes.{widened}
use Rattle.array_form.proofs.holds.BoxLaws.{ends_of_no_turn, ends_small, ends_wider, fewer}
use Rattle.array_form.proofs.holds.boxes.+ends_over.Goals as goal

pub returns-in_default-ends_over : goal.returns-in_default-ends_over
returns-in_default-ends_over t c =
    let loops : c.args.loops.now ≡ c.in-Some.turns.now ∷ c.in-Some.loops.now = search rules in
    let times : c.args.times.now ≡ c.in-Some-split_first.time.now ∷ c.in-Some-split_first.times.now = search rules in
    ends_of_no_turn c.args.depth c.args.loops.now c.in-Some.loops.now c.in-Some.turns.now c.args.times.now c.in-Some-split_first.times.now c.in-Some-split_first.time.now loops times
    c.ends_over.result c.ends_over.ensures c.in_default-ends_over.is

pub widened-requires-clause-least : goal.widened-requires-clause-least
widened-requires-clause-least t c =
    let loops : c.args.loops.now ≡ c.in-Some.turns.now ∷ c.in-Some.loops.now = search rules in
    (ends_small c.args.depth c.in-Some.loops.now c.in-Some-split_first.times.now c.ends_over.result c.in-Some-ends_over.ends
    (fewer c.args.loops.now c.in-Some.loops.now c.in-Some.turns.now loops c.requires.few) c.ends_over.ensures c.in-Some-ends_over.is).0

pub widened-requires-clause-greatest : goal.widened-requires-clause-greatest
widened-requires-clause-greatest t c =
    let loops : c.args.loops.now ≡ c.in-Some.turns.now ∷ c.in-Some.loops.now = search rules in
    (ends_small c.args.depth c.in-Some.loops.now c.in-Some-split_first.times.now c.ends_over.result c.in-Some-ends_over.ends
    (fewer c.args.loops.now c.in-Some.loops.now c.in-Some.turns.now loops c.requires.few) c.ends_over.ensures c.in-Some-ends_over.is).1

pub returns : goal.returns
returns t c =
    let loops : c.args.loops.now ≡ c.in-Some.turns.now ∷ c.in-Some.loops.now = search rules in
    let times : c.args.times.now ≡ c.in-Some-split_first.time.now ∷ c.in-Some-split_first.times.now = search rules in
    let nought : c.is_nought.result ≡ int_eq c.in-Some-split_first.time.now (pos 0) = search rules in
    let made : c.widened.result ≡ widened c.in-Some-ends_over.ends c.in-Some-split_first.time.now c.in-Some.turns.now.trip.top.constant = search rules in
    ends_wider c.args.depth c.args.loops.now c.in-Some.loops.now c.in-Some.turns.now c.args.times.now c.in-Some-split_first.times.now c.in-Some-split_first.time.now loops times
    c.ends_over.result c.widened.result c.in-Some-ends_over.ends c.is_nought.result c.ends_over.ensures c.in-Some-ends_over.is nought c.if-is_nought.false made c.widened.ensures.sizes
