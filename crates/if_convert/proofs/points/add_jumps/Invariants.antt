-- The jumps so far have been added.
use Rattle.std.proofs.Common.{◌≡◌, ◌++◌, take}
use Rattle.if_convert.proofs.points.add_jumps.Given as goal

abbrev pub invariant-loop-jump : goal.invariant-loop-jump
invariant-loop-jump l = l.jumps ≡ l.initial.jumps ++ take l.jump-index l.more
