use Rattle.std.proofs.Common.{◌≡◌, ◌≤◌, length, drop, true}
use Rattle.std.specs.List.{list_all}
use Rattle.reading.specs.Characters.{is_blank}
use Rattle.f90_lines.proofs.parts.end.Given as goal

abbrev pub invariant-blanks : goal.invariant-blanks
invariant-blanks l = (l.end ≤ length l.text) × (list_all is_blank (drop l.end l.text) ≡ true)

abbrev pub decreases-blanks : goal.decreases-blanks
decreases-blanks l = l.end
