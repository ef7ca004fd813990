use Rattle.std.proofs.Common.{arith, rules}
use Rattle.nest_reasons.proofs.Lists.{kept_mapped}
use Rattle.find_nests.specs.bound_limits.Composed.{Outer, is_loop_among}
use Rattle.find_nests.specs.bound_limits.View.{outer_of}
use Rattle.find_nests.proofs.bound_limits.around.those_among.Goals as goal

pub loop-outer-preserved : goal.loop-outer-preserved
loop-outer-preserved c =
    kept_mapped (is_loop_among c.args.names.now) (λ (r : Outer). r.variable) outer_of c.args.around.now c.loop-outer.outer-index c.outer-item.result
    c.contains-stands.result c.loop-outer.variables c.push_if.new.names (omega arith) c.outer-item.is
    (search rules) c.loop-outer.invariant c.in_ok-push_if.ensures
