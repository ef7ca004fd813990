-- Values that are put behind others.
use Rattle.std.specs.Prelude.{◌≡◌, Result, Ok, Err, List, ◌++◌}
use Rattle.tree.specs.declared.ops.Value.{Value}
use Rattle.tree.specs.declared.ops.Fault.{Fault}
use Rattle.array_values.specs.declared.failure.Failure.{Failure}
use Rattle.array_values.specs.declared.failure.Failure.TheVariants as failure

-- the values that were asked for stand behind the old ones, or they have this fault
abbrev pub Appends : List Value → List Value → Result (List Value) Fault → Result (Unit {0}) Failure → Type 0
Appends old new q (Ok x) = (vs : List Value) × (q ≡ Ok vs) × (new ≡ old ++ vs)
Appends old new q (Err (failure.Fault f)) = q ≡ Err f
Appends old new q (Err failure.Memory) = Unit {0}
