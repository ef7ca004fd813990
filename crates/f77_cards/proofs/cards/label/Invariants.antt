use Rattle.std.proofs.Common.{◌≡◌, ◌^◌, ◌<◌, take, unwrap_or}
use Rattle.f77_grammar.specs.Cards.{label_in_field}
use Rattle.f77_cards.proofs.cards.label.Given as goal

abbrev pub invariant-loop-column : goal.invariant-loop-column
invariant-loop-column l = (l.label ≡ label_in_field (take l.column-index l.field)) × (unwrap_or l.label 0 < 10 ^ l.column-index)
