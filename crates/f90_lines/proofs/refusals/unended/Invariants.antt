use Rattle.std.proofs.Common.{◌≡◌, length}
use Rattle.std.specs.Str.Lines.{lines}
use Rattle.f90_grammar.specs.LineCauses.{Between}
use Rattle.f90_lines.specs.Standings.{behind_lines}
use Rattle.f90_lines.specs.Views.{standing_seen}
use Rattle.f90_lines.proofs.refusals.unended.Given as goal

abbrev pub invariant-unended : goal.invariant-unended
invariant-unended l =
    behind_lines 0 Between (lines l.text) ≡ behind_lines l.lines.taken (standing_seen l.standing) (lines l.lines.rest.now)

abbrev pub decreases-unended : goal.decreases-unended
decreases-unended l = length l.lines.rest.now
