use Rattle.statement_passes.proofs.Shifting.{shifted_runs_alike}
use Rattle.statement_passes.proofs.Standings.{symbol_leaves_nest}
use Rattle.statement_passes.proofs.laws.symbol_standings.Goals as goal

pub returns-clause-standings : goal.returns-clause-standings
returns-clause-standings c = symbol_leaves_nest

pub returns-clause-runs : goal.returns-clause-runs
returns-clause-runs c = shifted_runs_alike
