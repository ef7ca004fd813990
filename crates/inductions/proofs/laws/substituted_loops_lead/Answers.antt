use Rattle.inductions.proofs.Together.{substituted_loops_lead}
use Rattle.inductions.proofs.laws.substituted_loops_lead.Goals as goal

pub returns : goal.returns
returns c = substituted_loops_lead
