use Rattle.std.proofs.Common.{◌≡◌, length}
use Rattle.std.specs.Str.Lines.{lines}
use Rattle.f90_grammar.specs.LineCauses.{Between}
use Rattle.f90_lines.specs.Standings.{first_bad}
use Rattle.f90_lines.specs.Views.{standing_seen}
use Rattle.f90_lines.proofs.refusals.first_bad_byte.Given as goal

abbrev pub invariant-bad : goal.invariant-bad
invariant-bad l =
    first_bad 0 Between (lines l.text) ≡ first_bad l.lines.taken (standing_seen l.standing) (lines l.lines.rest.now)

abbrev pub decreases-bad : goal.decreases-bad
decreases-bad l = length l.lines.rest.now
