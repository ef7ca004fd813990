use Rattle.scalar_expand.proofs.Covers.{covered}
use Rattle.scalar_expand.proofs.laws.extents_cover.Goals as goal

pub returns : goal.returns
returns c = covered
