-- A card of the code as the definitions have it.
use Rattle.f77_cards.specs.declared.cards.Card.{Card}
use Rattle.f77_grammar.specs.Cards.{PlainCard}

abbrev pub card_of : Card → PlainCard
card_of c = record { label = c.label; line = c.line; chars = c.chars }
