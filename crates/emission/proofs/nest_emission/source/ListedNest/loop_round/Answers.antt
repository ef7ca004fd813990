use Rattle.std.proofs.Common.{refl, get_or, arith}
use Rattle.emission.specs.nest_emission.Given.{nest_in}
use Rattle.emission.proofs.nest_emission.SourceLaws.{loop_is, no_loop}
use Rattle.emission.proofs.nest_emission.source.ListedNest.loop_round.Goals as goal

pub returns-in-Some : goal.returns-in-Some
returns-in-Some c =
    loop_is c.args.self.now c.requires.source c.args.level c.args.class.now c.loop-number.number-index (get_or c.args.class.now c.loop-number.number-index 0) c.statement.result.now c.in-Some.turns.now
    (omega arith) refl c.statement.ensures c.in-Some.ensures.item

pub unreachable-requires : goal.unreachable-requires
unreachable-requires c = no_loop (nest_in c.args.self.now) c.args.level c.args.class.now (λ i h. c.loop-number.invariant i (omega arith)) c.requires.loop_there
