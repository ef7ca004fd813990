-- The loops so far.
use Rattle.std.proofs.Common.{◌≡◌, take}
use Rattle.array_form.specs.holds.View.{loop_names}
use Rattle.array_form.specs.Loops.{standing_in}
use Rattle.array_form.proofs.loops_in_text.those_among.Given as goal

abbrev pub invariant-loop-turns : goal.invariant-loop-turns
invariant-loop-turns l = l.those ≡ standing_in (take l.turns-index l.loops) (loop_names l.here)
