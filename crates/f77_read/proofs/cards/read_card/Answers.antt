use Rattle.std.proofs.lemmas.Result.{err_from_is_err_and}
use Rattle.f77_cards.specs.Card.{card_of}
use Rattle.f77_read.proofs.CardLaws.{card_refused, card_read}
use Rattle.f77_read.proofs.cards.read_card.Goals as goal

pub returns-in_err-statement : goal.returns-in_err-statement
returns-in_err-statement c =
    let p = err_from_is_err_and c.from_residual.result c.from_residual.ensures.1 in
    let e = c.in_err-statement.ensures in
    rw (p.1, p.2) (card_refused (card_of c.args.card.now) _ e.refused e.only_read e.only_refused)

pub returns : goal.returns
returns c =
    let e = c.in_ok-statement.ensures in
    card_read (card_of c.args.card.now) c.in_ok-statement.statement e.read e.only_read e.only_refused
