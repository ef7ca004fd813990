use Rattle.std.proofs.Common.{◌≡◌, length}
use Rattle.f90_lines.specs.Parts.{after_blanks}
use Rattle.f90_lines.proofs.parts.after_blanks.Given as goal

abbrev pub invariant-blanks : goal.invariant-blanks
invariant-blanks l = after_blanks l.text ≡ after_blanks l.rest

abbrev pub decreases-blanks : goal.decreases-blanks
decreases-blanks l = length l.rest
