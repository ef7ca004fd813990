use Rattle.std.proofs.Common.{length, arith}
use Rattle.interchange.specs.Orders.{is_fit}
use Rattle.interchange.proofs.OrderLaws.{fit_found}
use Rattle.interchange.proofs.orders.Known.first_fit.Goals as goal

pub returns-then-branch : goal.returns-then-branch
returns-then-branch c =
    fit_found (is_fit c.args.self.now.trips.now c.args.self.now.spans.now c.args.self.now.vectors.now c.args.order.now c.args.to) c.args.to c.loop-from.from (length c.args.order.now) c.in_ok-is_fit.field-0
    c.loop-from.invariant.low (omega (arith, c.loop-from-test.true)) c.loop-from.invariant.none c.in_ok-is_fit.ensures c.if-branch.true
