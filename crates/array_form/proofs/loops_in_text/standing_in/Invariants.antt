-- The loops so far.
use Rattle.std.proofs.Common.{◌≡◌, take}
use Rattle.meaning.specs.Reads.{names_in}
use Rattle.tree.specs.View.{expression_of}
use Rattle.array_form.specs.Loops.{standing_in}
use Rattle.array_form.proofs.loops_in_text.standing_in.Given as goal

abbrev pub invariant-loop-turns : goal.invariant-loop-turns
invariant-loop-turns l = l.those ≡ standing_in (take l.turns-index l.loops) (names_in (expression_of l.expr))
