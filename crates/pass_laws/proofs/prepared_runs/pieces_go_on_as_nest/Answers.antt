use Rattle.pass_laws.proofs.PreparedRuns.Together.{pieces_go_on_as_nest}
use Rattle.pass_laws.proofs.prepared_runs.pieces_go_on_as_nest.Goals as goal

pub returns : goal.returns
returns c = pieces_go_on_as_nest
