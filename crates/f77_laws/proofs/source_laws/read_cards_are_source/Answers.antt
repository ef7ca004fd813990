use Rattle.f77_laws.proofs.CardStatements as statements
use Rattle.f77_laws.proofs.source_laws.read_cards_are_source.Goals as goal

pub returns : goal.returns
returns c = statements.read_cards_are_source
