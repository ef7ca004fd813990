use Rattle.meaning_laws.proofs.profiles.ValueKinds.{value_has_kind, elements_have_kind}
use Rattle.meaning_laws.proofs.profiles.Ranks.{extents_are_rank}
use Rattle.meaning_laws.proofs.profiles.values_have_kinds.Goals as goal

pub returns-clause-value : goal.returns-clause-value
returns-clause-value c = value_has_kind

pub returns-clause-elements : goal.returns-clause-elements
returns-clause-elements c = elements_have_kind

pub returns-clause-extents : goal.returns-clause-extents
returns-clause-extents c = extents_are_rank
