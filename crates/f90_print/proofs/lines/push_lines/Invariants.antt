use Rattle.std.proofs.Common.{◌≡◌, ◌++◌, length}
use Rattle.f90_print.specs.Texts.{statement_lines}
use Rattle.f90_print.proofs.lines.push_lines.Given as goal

-- the lines so far and those of the rest
abbrev pub invariant-pieces : goal.invariant-pieces
invariant-pieces l = l.out.items ++ statement_lines l.rest ≡ l.fn.out.items ++ statement_lines l.text

abbrev pub decreases-pieces : goal.decreases-pieces
decreases-pieces l = length l.rest
