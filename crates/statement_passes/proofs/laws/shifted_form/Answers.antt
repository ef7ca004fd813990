use Rattle.statement_passes.proofs.Forms.{shifted_is_form, shifted_is_affine}
use Rattle.statement_passes.proofs.laws.shifted_form.Goals as goal

pub returns-clause-form : goal.returns-clause-form
returns-clause-form c = shifted_is_form

pub returns-clause-affine : goal.returns-clause-affine
returns-clause-affine c = shifted_is_affine
