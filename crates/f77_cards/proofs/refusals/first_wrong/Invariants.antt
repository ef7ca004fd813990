use Rattle.std.proofs.Common.{◌≡◌, ◌+◌, ◌^◌, ◌≤◌, length, unwrap_or, None}
use Rattle.f77_grammar.specs.Cards.{statement_lines}
use Rattle.f77_grammar.proofs.CardCauses.{first_wrong}
use Rattle.f77_cards.specs.Source.{cause_of}
use Rattle.f77_cards.specs.Left.{lines_left}
use Rattle.f77_cards.proofs.refusals.first_wrong.Given as goal

abbrev pub invariant-loop-line : goal.invariant-loop-line
invariant-loop-line l =
    (goal.iterator-loop-line).can_next l.line-iterator × (goal.iterator-loop-line).is_finite l.line-iterator
    × (first_wrong (cause_of l.cause) l.place (lines_left l.line-iterator) ≡ first_wrong (cause_of l.cause) None (statement_lines l.text))
    × (unwrap_or l.place 0 + length (lines_left l.line-iterator) ≤ 2 ^ 20)
