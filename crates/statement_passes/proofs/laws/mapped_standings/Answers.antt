use Rattle.statement_passes.proofs.Standings.{mapped_nest_has}
use Rattle.statement_passes.proofs.laws.mapped_standings.Goals as goal

pub returns : goal.returns
returns c = mapped_nest_has
