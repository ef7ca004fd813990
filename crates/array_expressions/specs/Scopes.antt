-- Parts of values, over the store that a scope stands for.
use Rattle.std.specs.Prelude.{Result, Ok, Option, ℕ, ℤ, Bool, List, [], ◌∷◌, map, length}
use Rattle.tree.specs.Steps.{◌>>=◌}
use Rattle.tree.specs.Operators.{call, as_numbers, reduced}
use Rattle.tree.specs.Plain.{Expression, Expressions, Loops, Reference}
use Rattle.tree.specs.declared.functions.Fun.{Fun}
use Rattle.tree.specs.declared.functions.Red.{Red}
use Rattle.tree.specs.declared.ops.Value.{Value}
use Rattle.tree.specs.declared.ops.Fault.{Fault}
use Rattle.meaning.specs.ArrayValues.{Array, Elements, in_whole, reshaped}
use Rattle.meaning.specs.Dialect.{fortran90}
use Rattle.tree.specs.declared.width.Width.{Width}
use Rattle.meaning.specs.Sections.{axes_selected, not_negative}
use Rattle.meaning.specs.Store.{Store, cell_at, stored_bounds}
use Rattle.meaning.specs.Value.{value_of, values_of, array_of, subscript_values, selectors, evaluated, is_scalar}
use Rattle.meaning.specs.Value.{name_is_scalar, are_indices, numbered, under}
use Rattle.array_values.specs.storage.Stored.{store_in}
use Rattle.array_values.specs.storage.Parts.{array_along}
use Rattle.array_expressions.specs.declared.locals.Local.{Local}
use Rattle.array_expressions.specs.declared.scope.Scope.{Scope}
use Rattle.array_expressions.specs.Locals.{bound_all}

-- ---- the store

-- with the variables of the loops that are being gone through
abbrev pub store_at : Scope → List Local → Store
store_at m ls = bound_all ls (store_in m.storage.now)

abbrev pub bounds_at : Scope → List ℕ → Option (List (ℤ × ℤ))
bounds_at m = (store_in m.storage.now).bounds

-- ---- scalars

-- what the cell of the name x with these subscripts holds
abbrev pub held_at : List ℕ → List ℤ → Store → Result Value Fault
held_at x is s = do
  c ← cell_at x is s
  Ok (s.held c)

abbrev pub element_of : (width : Width) → Reference → Store → Result Value Fault
element_of width r s = do
  is ← subscript_values (fortran90 width) r.subscripts s
  held_at r.name is s

abbrev pub call_of : (width : Width) → Fun → Expressions → Store → Result Value Fault
call_of width f es s = do
  xs ← values_of (fortran90 width) es s
  call f xs

abbrev pub number_at : (width : Width) → Expression → Store → Result ℤ Fault
number_at width e s = numbered (value_of (fortran90 width) e s)

-- SUM, MAXVAL or MINVAL of an array
abbrev pub reduction_of : (width : Width) → Red → Expression → Store → Result Value Fault
reduction_of width r e s = do
  g ← array_of (fortran90 width) e s
  v ← in_whole g
  zs ← as_numbers v.values
  reduced (fortran90 width).bits r zs

-- ---- arrays

abbrev pub is_scalar_reference : Reference → (List ℕ → Option (List (ℤ × ℤ))) → Bool
is_scalar_reference r bounds = name_is_scalar r.subscripts (bounds r.name) (are_indices r.subscripts bounds)

-- what a reference selects
abbrev pub selected_by : (width : Width) → Reference → Store → Result Array Fault
selected_by width r s = do
  zs ← selectors (fortran90 width) r.subscripts s
  bs ← stored_bounds r.name s
  axes ← axes_selected r.subscripts bs zs
  Ok (array_along r.name axes s)

-- in whole: a scalar's value, or all elements of an array
abbrev pub known_of : (width : Width) → Expression → Store → Result Array Fault
known_of width e s = evaluated (is_scalar e s.bounds) (value_of (fortran90 width) e s) (array_of (fortran90 width) e s)

-- an array of rank one
abbrev pub listed : List Value → Array
listed vs = record { extents = length vs ∷ []; values = vs }

abbrev pub constructed : (width : Width) → Expressions → Loops → Store → Result (List Value) Fault
constructed width es ls s = under (fortran90 width) ls (values_of (fortran90 width) es) s

-- the extents that RESHAPE is given
abbrev pub extents_at : (width : Width) → Expressions → Store → Result (List ℕ) Fault
extents_at width es s = do
  xs ← values_of (fortran90 width) es s
  zs ← as_numbers xs
  Ok (map not_negative zs)

-- the array with the extents that these values are
abbrev pub reshaped_to : List Value → Array → Result (Elements Value) Fault
reshaped_to vs a = do
  zs ← as_numbers vs
  reshaped (map not_negative zs) a

-- all elements of an array
abbrev pub whole_of : (width : Width) → Expression → Store → Result Array Fault
whole_of width e s = do
  g ← array_of (fortran90 width) e s
  in_whole g
