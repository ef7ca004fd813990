-- What references select of a name, as places where values can be put (ISO/IEC 1539:1991, sections 6.2.2 and 7.5.1).
use Rattle.std.specs.Prelude.{◌≡◌, Result, Ok, Err, Some, ℕ, ◌<◌, ℤ, true, List}
use Rattle.tree.specs.Steps.{◌>>=◌}
use Rattle.tree.specs.declared.ops.Fault.{Fault}
use Rattle.meaning.specs.Store.{Store, bounds_in, stored_bounds}
use Rattle.meaning.specs.Sections.{Axis, Selector, axes_on, whole_axes}
use Rattle.meaning.specs.Extents.{elements_of}
use Rattle.machine.specs.Storage.{offset}
use Rattle.array_values.specs.declared.failure.Failure.{Failure}
use Rattle.array_values.specs.declared.failure.Failure.TheVariants as failure
use Rattle.array_values.specs.declared.storage.array_places.selection.Selection.{Selection}
use Rattle.array_values.specs.storage.array_places.Selecting.{IsSelection, SelectsThese}
use Rattle.array_values.specs.declared.storage.slots.Slot.{Slot}
use Rattle.array_values.specs.declared.storage.slots.Place.{Place}
use Rattle.array_values.specs.declared.storage.targets.Target.{Target}
use Rattle.array_values.specs.storage.Bounds.{bounds_held}
use Rattle.array_values.specs.storage.Slots.{bounds_now, place_among, IsWithin}

-- what is selected of the bounds that the name x has now
abbrev pub axes_within : (List (ℤ × ℤ) → Result (List Axis) Fault) → List ℕ → Store → Result (List Axis) Fault
axes_within f x s = do
  bs ← stored_bounds x s
  f bs

abbrev pub all_of : List (ℤ × ℤ) → Result (List Axis) Fault
all_of bs = Ok (whole_axes bs)

abbrev pub part_of : List Selector → List (ℤ × ℤ) → Result (List Axis) Fault
part_of zs bs = axes_on bs zs

abbrev pub place_of : ℕ → ℕ → Place
place_of slot k = record { slot = slot; at = k }

-- the target is what is selected of the name x along these axes
pub record IsTarget (vs : List Slot) (x : List ℕ) (axes : List Axis) (t : Target) : Type 0 where
  pub bounds : List (ℤ × ℤ)
  pub selected : IsSelection bounds axes t.selected
  pub places : (is : List ℤ) (k : ℕ) → offset bounds is ≡ Some k → place_among vs x is ≡ Some (place_of t.slot k)
  pub within : (k : ℕ) → k < elements_of bounds → IsWithin vs (place_of t.slot k)

pub record TargetsThese (vs : List Slot) (x : List ℕ) (q : Result (List Axis) Fault) (t : Target) : Type 0 where
  pub axes : List Axis
  pub are : q ≡ Ok axes
  pub target : IsTarget vs x axes t

abbrev pub Targets : List Slot → List ℕ → Result (List Axis) Fault → Result Target Failure → Type 0
Targets vs x q (Ok t) = TargetsThese vs x q t
Targets vs x q (Err (failure.Fault f)) = q ≡ Err f
Targets vs x q (Err failure.Memory) = Unit {0}

-- ---- the same of one slot

pub record PicksThese (v : Slot) (f : List (ℤ × ℤ) → Result (List Axis) Fault) (t : Selection) : Type 0 where
  pub there : v.there ≡ true
  pub selected : SelectsThese (bounds_held v.bounds) (f (bounds_held v.bounds)) t

abbrev pub picked_here : (List (ℤ × ℤ) → Result (List Axis) Fault) → Slot → Result (List Axis) Fault
picked_here f v = do
  bs ← bounds_in (bounds_now v)
  f bs

abbrev pub Picks : Slot → (List (ℤ × ℤ) → Result (List Axis) Fault) → Result Selection Failure → Type 0
Picks v f (Ok t) = PicksThese v f t
Picks v f (Err (failure.Fault g)) = picked_here f v ≡ Err g
Picks v f (Err failure.Memory) = Unit {0}
