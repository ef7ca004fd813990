-- Parts of values: calls, and places among the elements of an array.
use Rattle.std.specs.Prelude.{Result, Ok, Option, ℕ, ℤ, List}
use Rattle.tree.specs.Steps.{◌>>=◌}
use Rattle.tree.specs.Operators.{call}
use Rattle.tree.specs.Plain.{Expressions, Subscripts}
use Rattle.tree.specs.declared.functions.Fun.{Fun}
use Rattle.tree.specs.declared.ops.Value.{Value}
use Rattle.tree.specs.declared.ops.Fault.{Fault}
use Rattle.meaning.specs.Dialect.{Dialect}
use Rattle.meaning.specs.Store.{Store}
use Rattle.meaning.specs.Value.{values_of, subscript_values}
use Rattle.machine.specs.Storage.{offset}

module _ (lang : Dialect) where
  -- the value of a function at expressions
  abbrev pub call_of : Fun → Expressions → Store → Result Value Fault
  call_of f es s = do
    xs ← values_of lang es s
    call f xs

  -- the place among the elements of an array, where the subscripts are within these bounds
  abbrev pub offset_of : List (ℤ × ℤ) → Subscripts → Store → Result (Option ℕ) Fault
  offset_of bs ps s = do
    is ← subscript_values lang ps s
    Ok (offset bs is)
