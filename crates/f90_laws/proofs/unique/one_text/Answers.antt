use Rattle.f90_laws.proofs.unique.Lines.{one_text}
use Rattle.f90_laws.proofs.unique.one_text.Goals as goal

pub returns : goal.returns
returns c = one_text
