-- The store that a machine's values stand for, and where its cells are.
use Rattle.std.specs.Prelude.{◌≡◌, Result, Ok, Err, Some, ℕ, ◌+◌, ◌≤◌, ℤ, List, map}
use Rattle.std.specs.Option.{option_map}
use Rattle.std.specs.Map.{values_of as variables_of}
use Rattle.tree.specs.Steps.{◌>>=◌}
use Rattle.tree.specs.Plain.{Declaration}
use Rattle.tree.specs.View.{declaration_of}
use Rattle.tree.specs.declared.ops.Value.{Value}
use Rattle.tree.specs.declared.ops.Fault.{Fault}
use Rattle.meaning.specs.Store.{Store, Cell, opening_bounds, stored_bounds, cells_of}
use Rattle.meaning.specs.Typed.{dimensions}
use Rattle.machine.specs.declared.variables.Variable.{Variable}
use Rattle.machine.specs.declared.storage.Storage.{Storage}
use Rattle.machine.specs.Storage.{store_of, declared, offset, place, total, values_of, AreBounds}

abbrev pub names_in : Storage → List Declaration
names_in s = declared (variables_of s.variables.entries)

abbrev pub store_in : Storage → Store
store_in s = store_of (names_in s) s.values.items

abbrev pub bounds_here : Variable → List (ℤ × ℤ)
bounds_here v = dimensions (declaration_of v.decl).extent

-- the variable is the one of the name x
pub record IsOf (ds : List Declaration) (x : List ℕ) (v : Variable) : Type 0 where
  pub bounds : opening_bounds ds x ≡ Some (bounds_here v)
  pub place : (is : List ℤ) → place ds x is ≡ option_map (λ k. v.start + k) (offset (bounds_here v) is)
  pub sound : AreBounds (bounds_here v)
  pub fits : v.start + values_of (declaration_of v.decl) ≤ total ds

-- the place is that of the cell, or both have the same fault
abbrev pub Finds : List Declaration → Result Cell Fault → Result ℕ Fault → Type 0
Finds ds (Ok c) (Ok k) = place ds c.name c.subscripts ≡ Some k
Finds ds (Err f) (Err g) = f ≡ g
Finds ds (Ok c) (Err g) = ⊥
Finds ds (Err f) (Ok k) = ⊥

-- the values of all elements of an array, or of a scalar
abbrev pub all_values : List ℕ → Store → Result (List Value) Fault
all_values x s = do
  bs ← stored_bounds x s
  Ok (map s.held (cells_of x bs))
