use Rattle.prepared_passes.proofs.ExpandedNests.Tells.{prepared_texts_tell}
use Rattle.prepared_passes.proofs.expansion.prepared_texts_tell.Goals as goal

pub returns : goal.returns
returns c = prepared_texts_tell
