use Rattle.f90_laws.proofs.printed.PrintedWords.{printed_is_spelled}
use Rattle.f90_laws.proofs.printed.printed_is_spelled.Goals as goal

pub returns : goal.returns
returns c = printed_is_spelled
