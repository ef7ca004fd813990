use Rattle.f77_laws.proofs.Cards as cards
use Rattle.f77_laws.proofs.source_laws.read_source_has_cards.Goals as goal

pub returns : goal.returns
returns c = cards.read_source_has_cards
