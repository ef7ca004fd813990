use Rattle.prepared_passes.proofs.ExpandedNests.Unwritten.{unexpanded_nest_writes_no_induction}
use Rattle.prepared_passes.proofs.unexpanded.unexpanded_nest_writes_no_induction.Goals as goal

pub returns : goal.returns
returns c = unexpanded_nest_writes_no_induction
