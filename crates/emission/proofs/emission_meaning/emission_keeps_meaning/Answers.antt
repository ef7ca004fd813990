use Rattle.emission.proofs.EmissionMeaning.Meaning.{emission_keeps_meaning}
use Rattle.emission.proofs.emission_meaning.emission_keeps_meaning.Goals as goal

pub returns : goal.returns
returns c = emission_keeps_meaning
