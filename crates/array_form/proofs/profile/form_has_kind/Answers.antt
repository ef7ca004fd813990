use Rattle.array_form.proofs.profile.Formed.{form_kinds}
use Rattle.array_form.proofs.profile.form_has_kind.Goals as goal

pub returns : goal.returns
returns c = form_kinds
