use Rattle.f90_laws.proofs.unique.Items.{one_items}
use Rattle.f90_laws.proofs.unique.one_items.Goals as goal

pub returns : goal.returns
returns c = one_items
