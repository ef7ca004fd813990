-- Where the cells of a program's names lie: in one list of values, the names in the order of their declarations, and
-- the
-- elements of an array in column-major order (ANSI X3.9-1978, section 5.2.5).
use Rattle.std.specs.Prelude.{◌≡◌, false, Option, Some, None, ℕ, ◌+◌, ◌*◌, ◌^◌, ◌≤◌, ℤ, ◌-ℤ◌, nat_abs, int_le, ◌&&◌}
use Rattle.std.specs.Prelude.{pos, ◌+ℤ◌, ◌≤ℤ◌, ◌<ℤ◌}
use Rattle.std.specs.Prelude.{if◌then◌else◌, List, [], ◌∷◌, map, get_or, nat_lt, length, ◌++◌, replicate}
use Rattle.std.specs.Option.{option_map}
use Rattle.std.specs.Str.{bytes_eq}
use Rattle.std.specs.List.{AllByRecursion}
use Rattle.tree.specs.Plain.{Declaration, Extent, Given, Later}
use Rattle.tree.specs.View.{declaration_of, bounds_of}
use Rattle.tree.specs.declared.ops.Value.{Value}
use Rattle.tree.specs.declared.programs.Dim.{Dim}
use Rattle.meaning.specs.Store.{Store, size_of, opening_bounds, opening_value, nought}
use Rattle.meaning.specs.Typed.{dimensions}
use Rattle.meaning.specs.Extents.{elements_of}
use Rattle.machine.specs.declared.variables.Variable.{Variable}

-- the place of one number in its dimension, and of the others in theirs
abbrev pub joined : ℤ × ℤ → ℤ → Option ℕ → Option ℕ
joined b i None = None
joined b i (Some rest) = if int_le b.0 i && int_le i b.1 then Some (nat_abs (i -ℤ b.0) + size_of b * rest) else None

-- the place of an element among those of its array, where its subscripts are within the bounds
abbrev pub offset : List (ℤ × ℤ) → List ℤ → Option ℕ
offset [] [] = Some 0
offset (b ∷ bs) (i ∷ is) = joined b i (offset bs is)
offset _ _ = None

-- a scalar is one value
abbrev pub values_of : Declaration → ℕ
values_of d = elements_of (dimensions d.extent)

abbrev pub total : List Declaration → ℕ
total [] = 0
total (d ∷ ds) = values_of d + total ds

-- the place of a cell among all values of the names
abbrev pub place : List Declaration → List ℕ → List ℤ → Option ℕ
place [] x is = None
place (d ∷ ds) x is = if bytes_eq d.name x then offset (dimensions d.extent) is
    else option_map (λ k. values_of d + k) (place ds x is)

-- what the values of the names are when a run begins
abbrev pub noughts_of : List Declaration → List Value
noughts_of [] = []
noughts_of (d ∷ ds) = replicate (values_of d) (nought d.kind) ++ noughts_of ds

abbrev pub value_at : List Value → Value → Option ℕ → Value
value_at vs v None = v
value_at vs v (Some k) = get_or vs k v

-- the opening store of these names
abbrev pub opening_of : List Declaration → Store
opening_of ds = record { bounds = opening_bounds ds; held = λ c. opening_value ds c.name }

-- the store that the values stand for. A cell that isn't there holds what it held when the run began
unfoldable pub store_of : List Declaration → List Value → Store
store_of ds vs = record {
  bounds = opening_bounds ds;
  held = λ c. value_at vs (opening_value ds c.name) (place ds c.name c.subscripts);
}

-- ---- the machine's table of names

abbrev pub declared : List Variable → List Declaration
declared vs = map (λ (v : Variable). declaration_of v.decl) vs

abbrev pub own_names : List Variable → List (List ℕ)
own_names vs = map (λ (v : Variable). v.decl.name) vs

-- no name is declared twice
abbrev pub AreDistinct : List Declaration → Type 0
AreDistinct [] = Unit {0}
AreDistinct (d ∷ ds) = AllByRecursion (λ (e : Declaration). bytes_eq d.name e.name ≡ false) ds × AreDistinct ds

-- where each name's values start: where those of the name before it end
abbrev pub starts_of : ℕ → List Declaration → List ℕ
starts_of n [] = []
starts_of n (d ∷ ds) = n ∷ starts_of (n + values_of d) ds

abbrev pub starts_in : List Variable → List ℕ
starts_in vs = map (λ (v : Variable). v.start) vs

abbrev pub bounds_list : List Dim → List (ℤ × ℤ)
bounds_list ds = map bounds_of ds

-- the lower bound of a dimension is at most the upper one, and from the one to the other are at most 2^22 numbers
pub record IsBounded (b : ℤ × ℤ) : Type 0 where
  pub ordered : b.0 ≤ℤ b.1
  pub near : b.1 <ℤ (b.0 +ℤ pos (2 ^ 22))

-- the bounds of an array, which has at most 2^22 elements
pub record AreBounds (bs : List (ℤ × ℤ)) : Type 0 where
  pub each : AllByRecursion IsBounded bs
  pub dimensions : length bs ≤ 7
  pub few : elements_of bs ≤ 2 ^ 22

-- an array's bounds stand in its declaration
abbrev pub HasBounds : Extent → Type 0
HasBounds (Given bs) = AreBounds bs
HasBounds (Later n) = ⊥

abbrev pub AreArrays : List Declaration → Type 0
AreArrays ds = AllByRecursion (λ (d : Declaration). HasBounds d.extent) ds

-- what is kept of subscripts with one more: of more than seven, eight
abbrev pub with_more : List ℤ → ℤ → List ℤ
with_more is i = if nat_lt (length is) 8 then is ++ i ∷ [] else is
