use Rattle.meaning.proofs.Agreeing.{statements_keep_agreement}
use Rattle.meaning.proofs.laws.kept_agreement.Goals as goal

pub returns : goal.returns
returns c = statements_keep_agreement
