use Rattle.if_convert.proofs.Plain.{converted_plain}
use Rattle.if_convert.proofs.laws.converted_is_plain.Goals as goal

pub returns : goal.returns
returns c = converted_plain
