use Rattle.f90_laws.proofs.unique.Tokens.{one_words}
use Rattle.f90_laws.proofs.unique.one_words.Goals as goal

pub returns : goal.returns
returns c = one_words
