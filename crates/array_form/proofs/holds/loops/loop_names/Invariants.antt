-- The names so far.
use Rattle.std.proofs.Common.{◌≡◌, take}
use Rattle.array_form.specs.holds.View.{loop_names}
use Rattle.array_form.proofs.holds.loops.loop_names.Given as goal

abbrev pub invariant-loop-turns : goal.invariant-loop-turns
invariant-loop-turns l = l.names ≡ loop_names (take l.turns-index l.loops)
