use Rattle.linear_forms.proofs.CanonicalBlocks.{canonical_block_stays}
use Rattle.linear_forms.proofs.laws.canonical_block_stays.Goals as goal

pub returns : goal.returns
returns c = canonical_block_stays
