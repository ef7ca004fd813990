-- The holds of the statements so far.
use Rattle.std.proofs.Common.{◌≡◌}
use Rattle.std.specs.List.{flat_map}
use Rattle.meaning.specs.ArrayValues.{counted}
use Rattle.nest.specs.View.{nest_of}
use Rattle.array_form.specs.holds.Holds.{holds_of}
use Rattle.array_form.proofs.holds.levels.all_holds.Given as goal

abbrev pub invariant-loop-place : goal.invariant-loop-place
invariant-loop-place l = l.all ≡ flat_map (holds_of (nest_of l.nest)) (counted 1 l.place)
