use Rattle.reduction_laws.proofs.unread.Blind.{unread_is_blind}
use Rattle.reduction_laws.proofs.unread.unread_variables.Goals as goal

pub returns : goal.returns
returns c = unread_is_blind
