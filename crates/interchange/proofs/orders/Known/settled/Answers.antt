use Rattle.std.proofs.Common.{◌<◌, ◌∙◌, length, sym, subst}
use Rattle.interchange.specs.Orders.{is_fit}
use Rattle.interchange.proofs.OrderLaws.{fit_behind}
use Rattle.interchange.proofs.orders.Known.settled.Goals as goal

pub moved-requires-clause-to : goal.moved-requires-clause-to
moved-requires-clause-to c =
    (fit_behind (is_fit c.args.self.now.trips.now c.args.self.now.spans.now c.args.self.now.vectors.now c.as_slice-2.result.now c.args.to) c.args.to (length c.as_slice-2.result.now) c.in_ok-from.field-0 c.in-Some.from
    c.in_ok-from.ensures c.in-Some.is).0

pub moved-requires-clause-from : goal.moved-requires-clause-from
moved-requires-clause-from c =
    subst (λ xs. c.in-Some.from < length xs) (c.as_slice-2.ensures.value ∙ sym c.as_slice-in-Some.ensures.value)
    (fit_behind (is_fit c.args.self.now.trips.now c.args.self.now.spans.now c.args.self.now.vectors.now c.as_slice-2.result.now c.args.to) c.args.to (length c.as_slice-2.result.now) c.in_ok-from.field-0 c.in-Some.from
    c.in_ok-from.ensures c.in-Some.is).1
