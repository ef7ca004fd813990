use Rattle.nest.specs.View.{loop_of}
use Rattle.statement_passes.proofs.PassLaws.{pushed-turns}
use Rattle.statement_passes.proofs.passes.add_turns.Goals as goal

pub returns : goal.returns
returns c = pushed-turns c.push.result c.args.made.now c.push.new.self c.in_ok-copy.field-0 (loop_of c.args.turns.now) c.args.body c.in_ok-copy.ensures c.push.ensures.ok
