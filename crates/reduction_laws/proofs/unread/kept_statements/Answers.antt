use Rattle.reduction_laws.proofs.unread.Law.{kept_statements_follow}
use Rattle.reduction_laws.proofs.unread.kept_statements.Goals as goal

pub returns : goal.returns
returns c = kept_statements_follow
