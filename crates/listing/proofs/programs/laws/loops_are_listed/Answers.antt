use Rattle.listing.proofs.programs.Stages.{loops_are_listed}
use Rattle.listing.proofs.programs.laws.loops_are_listed.Goals as goal

pub returns : goal.returns
returns c = loops_are_listed
