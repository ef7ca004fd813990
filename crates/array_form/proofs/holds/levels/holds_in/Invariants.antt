-- The holds of the levels so far.
use Rattle.std.proofs.Common.{◌≡◌}
use Rattle.std.specs.List.{flat_map}
use Rattle.std.specs.Option.{option_map}
use Rattle.meaning.specs.ArrayValues.{counted}
use Rattle.tree.specs.View.{expression_of, reference_of}
use Rattle.array_form.specs.holds.View.{surroundings_view}
use Rattle.array_form.specs.holds.Holds.{hold_at_level}
use Rattle.array_form.proofs.holds.levels.holds_in.Given as goal

abbrev pub invariant-loop-from : goal.invariant-loop-from
invariant-loop-from l =
    l.all ≡ flat_map (hold_at_level l.s (surroundings_view l.a) (option_map expression_of l.stmt.guard) (reference_of l.stmt.left) l.safe) (counted 1 l.from)
