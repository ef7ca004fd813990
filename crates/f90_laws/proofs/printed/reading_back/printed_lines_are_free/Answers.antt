use Rattle.f90_laws.proofs.printed.PrintedBlocksBack.{text_lines_free}
use Rattle.f90_laws.proofs.printed.PrintedWords.{printed_is_spelled}
use Rattle.f90_laws.proofs.printed.reading_back.printed_lines_are_free.Goals as goal

pub returns : goal.returns
returns c = λ p notes h k. text_lines_free p notes h k (printed_is_spelled p h)
