use Rattle.std.proofs.Common.{map, take, subst, arith}
use Rattle.f77_cards.specs.Card.{card_of}
use Rattle.f77_read.specs.Cards.{IsTried}
use Rattle.f77_read.proofs.CardLaws.{more_cards}
use Rattle.f77_read.proofs.cards.try_cards.Goals as goal

pub loop-card-preserved : goal.loop-card-preserved
loop-card-preserved c =
    subst (λ cards. IsTried cards c.try_card.new.self) (more_cards c.args.cards.now c.loop-card.card-index c.card-item.result (omega arith) c.card-item.is)
    (c.in_ok-try_card.ensures (map card_of (take c.loop-card.card-index c.args.cards.now)) c.loop-card.invariant)
