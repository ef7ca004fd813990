use Rattle.std.proofs.Common.{◌<◌, ◌^◌, length, arith}
use Rattle.nest.specs.View.{nest_of}
use Rattle.answers.proofs.Emitted.{may_be_emitted}
use Rattle.answers.proofs.guards.emitted.Goals as goal

pub emit-requires : goal.emit-requires
emit-requires c =
    let n = nest_of c.args.nest.now in
    let few : length n.symbols < 2 ^ 16 = omega (arith, c.len.ensures, c.if-len.false) in
    may_be_emitted n c.in_ok-graph.graph (c.in_ok-is_ready.ensures.0 c.if-not-branch.false) few c.in_ok-graph.ensures
