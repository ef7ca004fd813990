use Rattle.meaning_laws.proofs.profiles.Programs.{source_is_target, source_with_made_names}
use Rattle.meaning_laws.proofs.profiles.source_is_target.Goals as goal

pub returns-clause-plain : goal.returns-clause-plain
returns-clause-plain c = source_is_target

pub returns-clause-made : goal.returns-clause-made
returns-clause-made c = source_with_made_names
