-- Those of the loops so far.
use Rattle.std.proofs.Common.{◌≡◌, ℕ, map, take}
use Rattle.array_form.specs.forms.Loops.{loops_among}
use Rattle.meaning.specs.Reads.{names_in_subscript}
use Rattle.tree.specs.View.{subscript_of}
use Rattle.array_form.specs.holds.Surroundings.{counted_of}
use Rattle.array_form.proofs.holds.loops_standing.loops_in_sub.Given as goal

abbrev pub invariant-loop-turns : goal.invariant-loop-turns
invariant-loop-turns l = (n : ℕ) → map (counted_of n) l.those ≡ loops_among (map (counted_of n) (take l.turns-index l.loops)) (names_in_subscript (subscript_of l.sub))
