use Rattle.std.proofs.Common.{◌≡◌, ◌++◌, take, drop}
use Rattle.f90_lines.specs.Parts.{without_comment}
use Rattle.f90_lines.proofs.parts.without_comment.Given as goal

abbrev pub invariant-loop-at : goal.invariant-loop-at
invariant-loop-at l =
    without_comment l.in_constant l.line ≡ take l.at l.line ++ without_comment l.open (drop l.at l.line)
