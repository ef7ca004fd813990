use Rattle.std.proofs.Common.{arith}
use Rattle.std.proofs.lemmas.Int.{ints}
use Rattle.nest.specs.View.{loop_of}
use Rattle.index_split.proofs.CutLaws.{constant_by}
use Rattle.index_split.proofs.cuts.constant_trip.Goals as goal

pub returns-then-span : goal.returns-then-span
returns-then-span c =
    constant_by (loop_of c.args.turns.now) c.in-Some.trip c.span_after-span.result c.in-Some.is
    (record { top = c.is_form.ensures.0 c.if-not-is_form.false; positive = (let h = c.if-trip-lt1.false in omega (arith, ints, h)) })
    c.span_after-span.ensures.value c.if-span.true
