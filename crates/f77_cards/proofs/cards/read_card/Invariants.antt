use Rattle.std.proofs.Common.{◌≡◌, ◌≤◌, ◌++◌, ◌∷◌, length}
use Rattle.std.specs.List.{flat_map}
use Rattle.f77_grammar.specs.Cards.{statement_field}
use Rattle.f77_grammar.proofs.Grouping.{leading, grouped}
use Rattle.f77_cards.specs.Source.{line_of}
use Rattle.f77_cards.specs.Left.{lines_left}
use Rattle.f77_cards.proofs.cards.read_card.Given as goal

abbrev pub invariant-loop-line : goal.invariant-loop-line
invariant-loop-line l =
    let before = lines_left l.initial.lines in
    let left = lines_left l.lines in
    (l.chars.items ++ flat_map statement_field (leading left) ≡ flat_map statement_field (line_of l.first ∷ leading before))
    × (grouped left ≡ grouped before) × (length left ≤ length before)

abbrev pub decreases-loop-line : goal.decreases-loop-line
decreases-loop-line l = length (lines_left l.lines)
