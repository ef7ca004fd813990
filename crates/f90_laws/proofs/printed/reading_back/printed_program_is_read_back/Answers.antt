use Rattle.f90_laws.proofs.printed.PrintedBlocksBack.{text_back}
use Rattle.f90_laws.proofs.printed.PrintedTrees.{typed_reads_back}
use Rattle.f90_laws.proofs.printed.PrintedWords.{printed_is_spelled}
use Rattle.f90_laws.proofs.printed.reading_back.printed_program_is_read_back.Goals as goal

pub returns : goal.returns
returns c = λ p notes h k. text_back p notes h k (printed_is_spelled p h) (typed_reads_back p.declarations)
