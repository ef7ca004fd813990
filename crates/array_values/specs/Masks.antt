-- Where a mask is true.
use Rattle.std.specs.Prelude.{Result, Ok, ℕ, if◌then◌else◌, List, [], ◌∷◌}
use Rattle.tree.specs.Steps.{◌>>=◌}
use Rattle.tree.specs.Operators.{as_truth}
use Rattle.tree.specs.declared.ops.Value.{Value}
use Rattle.tree.specs.declared.ops.Fault.{Fault}
use Rattle.meaning.specs.ArrayValues.{Elements, counted, size}
use Rattle.array_values.specs.Positions.{position_at}

-- those of these places, within extents `ns`, at which the mask is true
abbrev pub true_among : Elements Value → List ℕ → List ℕ → Result (List ℕ) Fault
true_among mask ns [] = Ok []
true_among mask ns (k ∷ ks) = do
  x ← mask.at (position_at ns k)
  b ← as_truth x
  more ← true_among mask ns ks
  Ok (if b then k ∷ more else more)

abbrev pub true_places : Elements Value → List ℕ → Result (List ℕ) Fault
true_places mask ns = true_among mask ns (counted 0 (size ns))
