use Rattle.std.proofs.Common.{◌≡◌, ◌++◌, [], length}
use Rattle.std.specs.Prelude.{map}
use Rattle.f77_grammar.specs.Cards.{card_in, statement_lines}
use Rattle.f77_grammar.proofs.Grouping.{leading, grouped}
use Rattle.f77_cards.specs.Card.{card_of}
use Rattle.f77_cards.specs.Left.{lines_left}
use Rattle.f77_cards.proofs.cards.read_cards.Given as goal

abbrev pub invariant-loop-initial : goal.invariant-loop-initial
invariant-loop-initial l =
    let left = lines_left l.lines in
    (map card_of l.cards ++ map card_in (grouped left) ≡ map card_in (grouped (statement_lines l.text))) × (leading left ≡ [])

abbrev pub decreases-loop-initial : goal.decreases-loop-initial
decreases-loop-initial l = length (lines_left l.lines)
