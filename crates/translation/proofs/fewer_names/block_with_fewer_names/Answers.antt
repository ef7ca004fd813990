use Rattle.translation.proofs.FewerNames.FewerStatements.{block_with_fewer_names}
use Rattle.translation.proofs.fewer_names.block_with_fewer_names.Goals as goal

pub returns : goal.returns
returns c = block_with_fewer_names
