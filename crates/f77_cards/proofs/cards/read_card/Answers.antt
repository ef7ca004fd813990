use Rattle.std.proofs.Common.{◌∙◌, ap, refl}
use Rattle.f77_grammar.specs.Cards.{label_in_field}
use Rattle.f77_grammar.proofs.Grouping.{leading}
use Rattle.f77_cards.specs.Source.{line_of}
use Rattle.f77_cards.specs.Left.{lines_left}
use Rattle.f77_cards.proofs.ReadCards.{card_is, when_none}
use Rattle.f77_cards.proofs.cards.read_card.Goals as goal

pub returns-clause-card : goal.returns-clause-card
returns-clause-card c =
    card_is (line_of c.args.first.now) (leading (lines_left c.args.lines.now)) (lines_left c.loop-line.lines)
    c.label.result c.args.first.now.number c.from_vec.result c.loop-line.chars.items (c.label.ensures ∙ ap label_in_field c.label_field.ensures) refl c.from_vec.ensures c.loop-line.invariant.0
    (when_none c.next_continuation.result _ c.in_default.not-Some c.next_continuation.ensures.initial)
