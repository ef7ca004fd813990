use Rattle.std.proofs.Common.{arith, ◌≡◌, None, List, ap, length}
use Rattle.f77_grammar.specs.Cards.{Line, statement_lines, statement_lines_from}
use Rattle.f77_grammar.proofs.CardCauses.{first_wrong}
use Rattle.f77_cards.specs.Source.{cause_of}
use Rattle.f77_cards.proofs.Kept.{statement_lines-le}
use Rattle.f77_cards.proofs.refusals.first_wrong.Goals as goal

pub loop-line-init : goal.loop-line-init
loop-line-init c =
    let start = c.into_iter-line-iterator.result in
    let same : statement_lines_from start.number start.rest.now ≡ statement_lines c.args.text.now = cc in
    (tt, tt, ap (first_wrong (cause_of c.args.cause) None) same, omega (arith, ap (λ (ls : List Line). length ls) same, statement_lines-le 1 c.args.text.now, c.requires))
