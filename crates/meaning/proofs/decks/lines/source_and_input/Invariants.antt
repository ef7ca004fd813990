use Rattle.std.proofs.Common.{length}
use Rattle.meaning.proofs.decks.Parts.{IsPassed}
use Rattle.meaning.proofs.decks.lines.source_and_input.Given as goal

abbrev pub invariant-loop-line : goal.invariant-loop-line
invariant-loop-line l = IsPassed l.data_line l.deck l.rest

abbrev pub decreases-loop-line : goal.decreases-loop-line
decreases-loop-line l = length l.rest
