use Rattle.std.proofs.Common.{◌≡◌, length}
use Rattle.meaning.specs.Deck.{lines_of}
use Rattle.tool.specs.ArrayMarks.{loops_round}
use Rattle.tool.proofs.marks.loops_round.Given as goal

-- the lines so far aren't the nest's
abbrev pub invariant-loop-line : goal.invariant-loop-line
invariant-loop-line l = loops_round (lines_of l.text) l.nest l.statement ≡ loops_round (lines_of l.rest) l.nest l.statement

abbrev pub decreases-loop-line : goal.decreases-loop-line
decreases-loop-line l = length l.rest
