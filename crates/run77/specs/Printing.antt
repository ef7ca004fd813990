-- Items of an output list: one value, or all values of a name.
use Rattle.std.specs.Prelude.{◌≡◌, Result, Ok, ℕ, List, [], ◌∷◌}
use Rattle.tree.specs.Steps.{◌>>=◌}
use Rattle.tree.specs.Plain.{Expression}
use Rattle.tree.specs.declared.ops.Value.{Value}
use Rattle.tree.specs.declared.ops.Fault.{Fault}
use Rattle.meaning.specs.Store.{Store}
use Rattle.meaning.specs.Dialect.{fortran77}
use Rattle.tree.specs.declared.width.Width.{Width}
use Rattle.meaning.specs.Value.{value_of, item_values}
use Rattle.machine.specs.Stored.{all_values}

abbrev pub one_value : Result Value Fault → Result (List Value) Fault
one_value r = do
  x ← r
  Ok (x ∷ [])

-- the item is one value
unfoldable pub IsOneValue : Expression → Type 0
IsOneValue e = (w : Width) (s : Store) → item_values (fortran77 w) e s ≡ one_value (value_of (fortran77 w) e s)

-- the item is a name, and stands for all its elements
unfoldable pub AreAllValues : Expression → List ℕ → Type 0
AreAllValues e x = (w : Width) (s : Store) → item_values (fortran77 w) e s ≡ all_values x s
