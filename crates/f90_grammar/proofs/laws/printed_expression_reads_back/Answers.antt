use Rattle.f90_grammar.proofs.PrintingLaws.{back}
use Rattle.f90_grammar.proofs.laws.printed_expression_reads_back.Goals as goal

pub returns : goal.returns
returns c = back
