use Rattle.pass_laws.proofs.NormalMeaning.Meaning.{normal_form_keeps_meaning}
use Rattle.pass_laws.proofs.normal_meaning.normal_form_keeps_meaning.Goals as goal

pub returns : goal.returns
returns c = normal_form_keeps_meaning
