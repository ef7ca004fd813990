use Rattle.f90_laws.proofs.unique.Phrase.{one_phrase}
use Rattle.f90_laws.proofs.unique.one_phrase.Goals as goal

pub returns : goal.returns
returns c = one_phrase
