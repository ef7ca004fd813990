use Rattle.translation.proofs.NestTranslation.Translation.{translation_does_as_loop}
use Rattle.translation.proofs.nest_translation.translation_does_as_loop.Goals as goal

pub returns : goal.returns
returns c = translation_does_as_loop
