-- Those so far that don't lead to the label are left.
use Rattle.std.proofs.Common.{◌≡◌, filter, take}
use Rattle.if_convert.specs.Points.{is_left}
use Rattle.if_convert.proofs.points.left_from.Given as goal

abbrev pub invariant-loop-jump : goal.invariant-loop-jump
invariant-loop-jump l = l.left ≡ filter (is_left l.label) (take l.jump-index l.jumps)
