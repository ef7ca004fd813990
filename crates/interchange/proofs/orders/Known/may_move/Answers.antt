use Rattle.std.proofs.Common.{◌∙◌, ap}
use Rattle.std.specs.Prelude.{slice_index}
use Rattle.interchange.specs.Orders.{has_constant, is_count}
use Rattle.interchange.proofs.ListLaws.{copied_is}
use Rattle.interchange.proofs.TripLaws.{moves_over, moves_same, same_trip_at}
use Rattle.interchange.proofs.orders.Known.may_move.Goals as goal

pub returns-then-same_trip : goal.returns-then-same_trip
returns-then-same_trip c =
    let spans = c.args.self.now.spans.now in
    let trips = c.args.self.now.trips.now in
    let order = c.args.order.now in
    moves_same trips spans order c.args.to c.args.from c.is_countable.result c.same_trip.result
    (c.is_countable.ensures ∙ ap (has_constant is_count) (c.copied.ensures ∙ copied_is spans (slice_index order c.args.from) c.get.result c.get.ensures.lookup.3)) c.if-is_countable.false
    (c.same_trip.ensures ∙ same_trip_at trips (slice_index order c.args.to) (slice_index order c.args.from) c.copied-2.result c.copied-3.result
    (c.copied-2.ensures ∙ copied_is trips (slice_index order c.args.to) c.get-2.result c.get-2.ensures.lookup.3)
    (c.copied-3.ensures ∙ copied_is trips (slice_index order c.args.from) c.get-3.result c.get-3.ensures.lookup.3)) c.if-same_trip.true

pub returns : goal.returns
returns c =
    let spans = c.args.self.now.spans.now in
    let trips = c.args.self.now.trips.now in
    let order = c.args.order.now in
    moves_over trips spans order c.args.to c.args.from c.is_countable.result c.same_trip.result c.all_turn.result
    (c.is_countable.ensures ∙ ap (has_constant is_count) (c.copied.ensures ∙ copied_is spans (slice_index order c.args.from) c.get.result c.get.ensures.lookup.3)) c.if-is_countable.false
    (c.same_trip.ensures ∙ same_trip_at trips (slice_index order c.args.to) (slice_index order c.args.from) c.copied-2.result c.copied-3.result
    (c.copied-2.ensures ∙ copied_is trips (slice_index order c.args.to) c.get-2.result c.get-2.ensures.lookup.3)
    (c.copied-3.ensures ∙ copied_is trips (slice_index order c.args.from) c.get-3.result c.get-3.ensures.lookup.3)) c.if-same_trip.false
    c.all_turn.ensures
