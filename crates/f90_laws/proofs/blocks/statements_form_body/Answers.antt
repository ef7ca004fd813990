use Rattle.f90_laws.proofs.blocks.Bodies.{body_forms}
use Rattle.f90_laws.proofs.blocks.statements_form_body.Goals as goal

pub returns : goal.returns
returns c = body_forms
