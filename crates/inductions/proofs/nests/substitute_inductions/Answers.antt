use Rattle.nest.specs.View.{nest_of}
use Rattle.inductions.proofs.BlockLaws.{unwritten-in}
use Rattle.inductions.proofs.nests.substitute_inductions.Goals as goal

pub returns-clause-unwritten : goal.returns-clause-unwritten
returns-clause-unwritten c = unwritten-in c.substituted.result nest_of (nest_of c.args.nest.now) c.substituted.ensures
