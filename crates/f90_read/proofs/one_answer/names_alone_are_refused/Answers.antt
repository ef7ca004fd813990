use Rattle.f90_read.proofs.one_answer.Settled.{names_alone}
use Rattle.f90_read.proofs.one_answer.names_alone_are_refused.Goals as goal

pub returns : goal.returns
returns c = names_alone
