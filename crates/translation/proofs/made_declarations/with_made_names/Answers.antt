use Rattle.translation.proofs.MadeDeclarations.Made.{made_names}
use Rattle.translation.proofs.made_declarations.with_made_names.Goals as goal

pub returns : goal.returns
returns c = made_names
