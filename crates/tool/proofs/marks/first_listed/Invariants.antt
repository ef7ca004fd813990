use Rattle.std.proofs.Common.{◌≡◌, length}
use Rattle.meaning.specs.Deck.{lines_of}
use Rattle.tool.specs.ArrayMarks.{first_listed}
use Rattle.tool.proofs.marks.first_listed.Given as goal

-- the lines so far aren't the statement's
abbrev pub invariant-loop-line : goal.invariant-loop-line
invariant-loop-line l = first_listed l.statement (lines_of l.text) ≡ first_listed l.statement (lines_of l.rest)

abbrev pub decreases-loop-line : goal.decreases-loop-line
decreases-loop-line l = length l.rest
