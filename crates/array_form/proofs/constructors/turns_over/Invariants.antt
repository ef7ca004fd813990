-- The loops so far.
use Rattle.std.proofs.Common.{◌≡◌, map, take}
use Rattle.tree.specs.View.{loop_of}
use Rattle.array_form.specs.Texts.{turn_over}
use Rattle.array_form.proofs.constructors.turns_over.Given as goal

abbrev pub invariant-loop-turns : goal.invariant-loop-turns
invariant-loop-turns l = map loop_of l.all ≡ map (turn_over l.a) (take l.turns-index l.over)
