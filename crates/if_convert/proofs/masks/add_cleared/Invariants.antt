-- What was made so far, and what is left, are all.
use Rattle.std.proofs.Common.{◌≡◌, ◌-◌, ◌++◌, map}
use Rattle.nest.specs.View.{part_of}
use Rattle.if_convert.specs.Masks.{all_parts_of}
use Rattle.if_convert.specs.Points.{cleared}
use Rattle.if_convert.proofs.masks.add_cleared.Given as goal

abbrev pub invariant-loop-number : goal.invariant-loop-number
invariant-loop-number l =
    map part_of l.made ++ all_parts_of l.line (cleared l.number (l.end - l.number)) ≡ map part_of l.initial.made ++ all_parts_of l.line (cleared l.first (l.end - l.first))
