use Rattle.std.proofs.Common.{◌++◌, ◌∙◌, ap, map}
use Rattle.f77_grammar.specs.Cards.{card_in}
use Rattle.f77_grammar.proofs.CardLaws.{unrefused_short, unrefused_front}
use Rattle.f77_grammar.proofs.Grouping.{leading, grouped}
use Rattle.f77_cards.specs.Card.{card_of}
use Rattle.f77_cards.specs.Left.{lines_left}
use Rattle.f77_cards.proofs.cards.read_cards.Goals as goal

pub new-lines-requires : goal.new-lines-requires
new-lines-requires c = unrefused_short c.args.text.now c.requires

pub loop-initial-init : goal.loop-initial-init
loop-initial-init c = (
  ap (λ cards. map card_of cards ++ map card_in (grouped (lines_left c.new-lines.result))) c.new-cards.ensures ∙ ap (λ ls. map card_in (grouped ls)) c.new-lines.ensures,
  ap leading c.new-lines.ensures ∙ unrefused_front c.args.text.now c.requires,
)
