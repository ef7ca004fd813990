use Rattle.std.proofs.Common.{map, take}
use Rattle.f77_cards.specs.Card.{card_of}
use Rattle.f77_read.specs.Cards.{IsTried}
use Rattle.f77_read.proofs.cards.try_cards.Given as goal

abbrev pub invariant-loop-card : goal.invariant-loop-card
invariant-loop-card l = IsTried (map card_of (take l.card-index l.cards)) l.tried
