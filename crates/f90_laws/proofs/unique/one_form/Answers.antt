use Rattle.f90_laws.proofs.unique.Forms.{one_form}
use Rattle.f90_laws.proofs.unique.one_form.Goals as goal

pub returns : goal.returns
returns c = one_form
