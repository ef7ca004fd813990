use Rattle.pass_laws.proofs.PreparedRuns.Allocations.{arrays_are_deallocated}
use Rattle.pass_laws.proofs.prepared_runs.arrays_are_deallocated.Goals as goal

pub returns : goal.returns
returns c = arrays_are_deallocated
