use Rattle.split_laws.proofs.LoopAnswers.{split_program_is_split}
use Rattle.split_laws.proofs.splitting.split_program_is_split.Goals as goal

pub returns : goal.returns
returns c = split_program_is_split
