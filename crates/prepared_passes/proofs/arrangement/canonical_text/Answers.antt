use Rattle.prepared_passes.proofs.ArrangedNests.Canonical.{canonical_text_follows}
use Rattle.prepared_passes.proofs.arrangement.canonical_text.Goals as goal

pub returns : goal.returns
returns c = canonical_text_follows
