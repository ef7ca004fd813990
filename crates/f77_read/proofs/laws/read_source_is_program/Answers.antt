use Rattle.f77_read.proofs.SourceLaws as source
use Rattle.f77_read.proofs.laws.read_source_is_program.Goals as goal

pub returns : goal.returns
returns c = λ d text p small h. source.read_is_source_program d text h.cards p small h.are_cards h.program
