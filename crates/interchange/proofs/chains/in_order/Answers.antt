use Rattle.std.proofs.Common.{◌∙◌, ap, map, arith, take_all}
use Rattle.nest.specs.View.{loop_of}
use Rattle.interchange.specs.Arranged.{in_order}
use Rattle.interchange.proofs.ListLaws.{order_step}
use Rattle.interchange.proofs.chains.in_order.Goals as goal

pub loop-place-preserved : goal.loop-place-preserved
loop-place-preserved c =
    order_step c.args.loops.now c.args.order.now c.loop-place.place-index c.loop-place.new c.add_loop.new.new (omega arith) c.loop-place.invariant c.in_ok-add_loop.ensures

pub returns : goal.returns
returns c = c.loop-place.invariant ∙ ap (in_order (map loop_of c.args.loops.now)) (take_all c.loop-place.place-index c.args.order.now (omega arith))
