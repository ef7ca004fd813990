use Rattle.translation.proofs.NestTranslation.Translation.{translation_does_as_loop}
use Rattle.translation.proofs.ProgramTranslation.Translating.{translation_keeps}
use Rattle.translation.proofs.program_translation.translation_keeps_meaning.Goals as goal

pub returns : goal.returns
returns c width = translation_keeps width (translation_does_as_loop width)
