use Rattle.std.proofs.Common.{◌≡◌, length}
use Rattle.std.specs.Str.Lines.{lines}
use Rattle.f90_lines.specs.Standings.{first_long}
use Rattle.f90_lines.proofs.refusals.first_long_line.Given as goal

abbrev pub invariant-long : goal.invariant-long
invariant-long l = first_long 0 (lines l.text) ≡ first_long l.lines.taken (lines l.lines.rest.now)

abbrev pub decreases-long : goal.decreases-long
decreases-long l = length l.lines.rest.now
