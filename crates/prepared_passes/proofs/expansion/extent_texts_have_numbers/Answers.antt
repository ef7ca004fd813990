use Rattle.prepared_passes.proofs.ExpandedNests.Sizes.{extent_texts_have_numbers}
use Rattle.prepared_passes.proofs.expansion.extent_texts_have_numbers.Goals as goal

pub returns : goal.returns
returns c = extent_texts_have_numbers
