use Rattle.statement_passes.proofs.Forms.{shifted_has_number}
use Rattle.statement_passes.proofs.laws.shifted_number.Goals as goal

pub returns : goal.returns
returns c = shifted_has_number
