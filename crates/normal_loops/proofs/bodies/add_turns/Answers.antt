use Rattle.std.proofs.Common.{◌≡◌, None, rules, arith}
use Rattle.nest.specs.View.{nest_of}
use Rattle.normal_loops.proofs.BodyLaws.{loop-stays}
use Rattle.normal_loops.proofs.bodies.add_turns.Goals as goal

pub returns-in_default : goal.returns-in_default
returns-in_default c =
    let none : c.args.turns.now ≡ None = first_of (cc, search rules, grind arith) in
    loop-stays (nest_of c.args.nest.now) c.args.loops.now c.args.round.now c.args.made.now c.push.new.self c.args.turns.now c.args.source.now c.in_ok-copy.field-0 c.args.body
    none c.in_ok-copy.ensures c.in_ok-push.ensures.ok
