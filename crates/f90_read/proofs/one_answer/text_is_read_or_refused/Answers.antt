use Rattle.f90_read.proofs.one_answer.Settled.{read_or_refused}
use Rattle.f90_read.proofs.one_answer.text_is_read_or_refused.Goals as goal

pub returns : goal.returns
returns c = read_or_refused
