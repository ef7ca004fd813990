use Rattle.linear_forms.proofs.Expressed.{text_has_value}
use Rattle.linear_forms.proofs.laws.text_value.Goals as goal

pub returns : goal.returns
returns c = text_has_value
