use Rattle.linear_forms.proofs.TextsKeep.{text_keeps_value}
use Rattle.linear_forms.proofs.laws.text_kept_value.Goals as goal

pub returns : goal.returns
returns c = text_keeps_value
