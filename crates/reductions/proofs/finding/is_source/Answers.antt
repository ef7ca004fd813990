use Rattle.reductions.proofs.NameLaws.{source_is}
use Rattle.reductions.proofs.finding.is_source.Goals as goal

pub returns : goal.returns
returns c = source_is c.is_source.result c.args.name c.is_source.ensures
