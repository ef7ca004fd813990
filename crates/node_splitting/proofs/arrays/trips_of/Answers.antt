use Rattle.std.proofs.Common.{◌∙◌, sym, ap, map, arith, take_all}
use Rattle.nest.specs.View.{loop_of}
use Rattle.node_splitting.specs.Arrays.{trips_if_all}
use Rattle.node_splitting.proofs.Elements.{trips_missing, trips_step}
use Rattle.node_splitting.proofs.arrays.trips_of.Goals as goal

pub returns-in_default : goal.returns-in_default
returns-in_default c = trips_missing c.args.loops.now c.loop-turns.turns-index c.turns-item.result (omega arith) c.turns-item.is c.in_default.is

pub loop-turns-preserved : goal.loop-turns-preserved
loop-turns-preserved c =
    trips_step c.args.loops.now c.loop-turns.turns-index c.turns-item.result c.loop-turns.trips c.push.new.self c.in-Some.trip (omega arith) c.turns-item.is c.in-Some.is
    c.loop-turns.invariant c.in_ok-push.ensures.ok

pub returns : goal.returns
returns c = sym (ap (λ ls. trips_if_all (map loop_of ls)) (sym (take_all c.loop-turns.turns-index c.args.loops.now (omega arith))) ∙ c.loop-turns.invariant)
