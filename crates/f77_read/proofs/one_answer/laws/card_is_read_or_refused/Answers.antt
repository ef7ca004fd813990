use Rattle.f77_read.proofs.one_answer.Settled.{all_settled}
use Rattle.f77_read.proofs.one_answer.laws.card_is_read_or_refused.Goals as goal

pub returns : goal.returns
returns c = all_settled
