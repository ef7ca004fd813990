use Rattle.inductions.proofs.NotWritten.{no_induction_is_written}
use Rattle.inductions.proofs.laws.no_induction_is_written.Goals as goal

pub returns : goal.returns
returns c = no_induction_is_written
