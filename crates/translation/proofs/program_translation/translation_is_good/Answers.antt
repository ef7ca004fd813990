use Rattle.translation.proofs.ProgramTranslation.Good.{translation_is_good}
use Rattle.translation.proofs.program_translation.translation_is_good.Goals as goal

pub returns : goal.returns
returns c = translation_is_good
