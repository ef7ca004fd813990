-- The store that the values of names stand for, and where its cells are: the elements of an array stand in column-major
-- order (ISO/IEC 1539:1991, section 6.2.2.2).
use Rattle.std.specs.Prelude.{◌≡◌, Result, Ok, Err, Option, Some, None, ℕ, ◌+◌, ◌<◌, ℤ, pos, if◌then◌else◌}
use Rattle.std.specs.Prelude.{true, List, [], ◌∷◌, length, position, get_or, slice_set}
use Rattle.std.specs.Option.{option_map}
use Rattle.std.specs.Str.{bytes_eq}
use Rattle.tree.specs.declared.ops.Kind.{Kind}
use Rattle.tree.specs.declared.ops.Value.{Value}
use Rattle.tree.specs.declared.ops.Value.TheVariants.{Int}
use Rattle.tree.specs.declared.ops.Fault.{Fault}
use Rattle.tree.specs.declared.ops.Fault.TheVariants.{Bounds, Allocated}
use Rattle.meaning.specs.Store.{Store, Cell, nought}
use Rattle.machine.specs.Storage.{value_at, offset}
use Rattle.array_values.specs.declared.storage.slots.Slot.{Slot}
use Rattle.array_values.specs.declared.storage.slots.Place.{Place}
use Rattle.array_values.specs.storage.Bounds.{bounds_held}
use Rattle.array_values.specs.storage.Names.{own_names}

-- ---- one name

-- its bounds, where it has elements now
abbrev pub bounds_now : Slot → Option (List (ℤ × ℤ))
bounds_now v = if v.there then Some (bounds_held v.bounds) else None

-- what the cell with these subscripts holds: 0 or `.FALSE.` where no value stands for it
abbrev pub held_here : Slot → List ℤ → Value
held_here v is = value_at v.values.items (nought v.kind) (offset (bounds_held v.bounds) is)

abbrev pub inside : Option ℕ → Result ℕ Fault
inside (Some k) = Ok k
inside None = Err Bounds

-- the place of an element among those of the name
abbrev pub place_here : Slot → List ℤ → Result ℕ Fault
place_here v is = if v.there then inside (offset (bounds_held v.bounds) is) else Err Allocated

-- ---- all names

abbrev pub bounds_among : List Slot → List ℕ → Option (List (ℤ × ℤ))
bounds_among [] x = None
bounds_among (v ∷ vs) x = if bytes_eq v.name x then bounds_now v else bounds_among vs x

abbrev pub held_among : List Slot → List ℕ → List ℤ → Value
held_among [] x is = Int (pos 0)
held_among (v ∷ vs) x is = if bytes_eq v.name x then held_here v is else held_among vs x is

-- the kind of a name
abbrev pub kind_among : List Slot → List ℕ → Option Kind
kind_among [] x = None
kind_among (v ∷ vs) x = if bytes_eq v.name x then Some v.kind else kind_among vs x

-- the store that the slots stand for
unfoldable pub store_among : List Slot → Store
store_among vs = record {
  bounds = bounds_among vs;
  held = λ c. held_among vs c.name c.subscripts;
}

abbrev pub behind : Place → Place
behind p = record { slot = p.slot + 1; at = p.at }

-- where the value of a cell stands
abbrev pub place_among : List Slot → List ℕ → List ℤ → Option Place
place_among [] x is = None
place_among (v ∷ vs) x is =
    if bytes_eq v.name x then option_map (λ k. record { slot = 0; at = k }) (offset (bounds_held v.bounds) is)
    else option_map behind (place_among vs x is)

-- a value stands at the place
pub record IsWithin (vs : List Slot) (p : Place) : Type 0 where
  pub slot : p.slot < length vs
  pub at : (v : Slot) → v ≡ get_or vs p.slot v → p.at < length v.values.items

-- the slot v, at the place i, is that of the name x
pub record IsNamed (vs : List Slot) (x : List ℕ) (i : ℕ) (v : Slot) : Type 0 where
  pub name : bytes_eq v.name x ≡ true
  pub bounds : bounds_among vs x ≡ bounds_now v
  pub kind : kind_among vs x ≡ Some v.kind
  pub held : (is : List ℤ) → held_among vs x is ≡ held_here v is
  pub place : (is : List ℤ)
      → place_among vs x is ≡ option_map (λ k. record { slot = i; at = k }) (offset (bounds_held v.bounds) is)

-- the slot at the place i is that of the name x
pub record Has (vs : List Slot) (x : List ℕ) (i : ℕ) : Type 0 where
  pub within : i < length vs
  pub first : position (bytes_eq x) (own_names vs) ≡ Some i
  pub named : (v : Slot) → v ≡ get_or vs i v → IsNamed vs x i v

-- no slot is that of the name x
pub record IsMissing (vs : List Slot) (x : List ℕ) : Type 0 where
  pub bounds : bounds_among vs x ≡ None
  pub kind : kind_among vs x ≡ None

-- the place is that of the cell, or both have the same fault
abbrev pub Finds : List Slot → Result Cell Fault → Result Place Fault → Type 0
Finds vs (Ok c) (Ok p) = place_among vs c.name c.subscripts ≡ Some p
Finds vs (Err f) (Err g) = f ≡ g
Finds vs (Ok c) (Err g) = ⊥
Finds vs (Err f) (Ok p) = ⊥

-- the slot w is v, with x at the place k among its values
pub record Stores (v w : Slot) (k : ℕ) (x : Value) : Type 0 where
  pub name : w.name ≡ v.name
  pub kind : w.kind ≡ v.kind
  pub there : w.there ≡ v.there
  pub bounds : w.bounds ≡ v.bounds
  pub values : w.values.items ≡ slice_set v.values.items k x

-- the names, their kinds and bounds and the places of all cells are the same
pub record SamePlaces (old new : List Slot) : Type 0 where
  pub names : own_names new ≡ own_names old
  pub kinds : (x : List ℕ) → kind_among new x ≡ kind_among old x
  pub places : (x : List ℕ) (is : List ℤ) → place_among new x is ≡ place_among old x is
  pub bounds : (x : List ℕ) → bounds_among new x ≡ bounds_among old x
  pub within : (p : Place) → IsWithin old p → IsWithin new p
