-- Arrays that come and go (ISO/IEC 1539:1991, section 6.3).
use Rattle.std.specs.Prelude.{◌≡◌, ◌<◌, Result, Ok, Err, None, ℕ, ℤ, true, false, List}
use Rattle.tree.specs.declared.ops.Kind.{Kind}
use Rattle.tree.specs.declared.ops.Fault.{Fault}
use Rattle.tree.specs.declared.ops.Fault.TheVariants.{Allocated}
use Rattle.meaning.specs.Store.{nought, nought_like, allocated, with_bounds, stored_bounds}
use Rattle.meaning.specs.ArrayStatements.{free}
use Rattle.meaning.specs.Extents.{elements_of}
use Rattle.array_values.specs.declared.failure.Failure.{Failure}
use Rattle.array_values.specs.declared.failure.Failure.TheVariants as failure
use Rattle.array_values.specs.declared.storage.slots.Slot.{Slot}
use Rattle.array_values.specs.storage.Bounds.{bounds_held, from_one}
use Rattle.array_values.specs.storage.Slots.{store_among, held_among, held_here}

-- ---- one name

pub record OpensAs (old new : Slot) (bs : List (ℤ × ℤ)) : Type 0 where
  pub name : new.name ≡ old.name
  pub kind : new.kind ≡ old.kind
  pub was : old.there ≡ false
  pub there : new.there ≡ true
  pub bounds : bounds_held new.bounds ≡ bs
  pub values : (is : List ℤ) → held_here new is ≡ nought old.kind

-- memory is wanting only where there are to be elements
abbrev pub Opens : Slot → Slot → List (ℤ × ℤ) → Result (Unit {0}) Failure → Type 0
Opens old new bs (Ok x) = OpensAs old new bs
Opens old new bs (Err (failure.Fault f)) = (f ≡ Allocated) × (old.there ≡ true) × (new ≡ old)
Opens old new bs (Err failure.Memory) = (new ≡ old) × (0 < elements_of bs)

pub record ClosesAs (old new : Slot) : Type 0 where
  pub name : new.name ≡ old.name
  pub kind : new.kind ≡ old.kind
  pub was : old.there ≡ true
  pub there : new.there ≡ false
  pub values : (is : List ℤ) → held_here new is ≡ held_here old is

abbrev pub Closes : Slot → Slot → Result (Unit {0}) Fault → Type 0
Closes old new (Ok x) = ClosesAs old new
Closes old new (Err f) = (f ≡ Allocated) × (old.there ≡ false) × (new ≡ old)

-- ---- all names

-- the name x, of the kind k, holds values of this kind, whether it has elements now or not
abbrev pub HoldsKind : Kind → List ℕ → List Slot → Type 0
HoldsKind k x vs = (is : List ℤ) → nought_like (held_among vs x is) ≡ nought k

-- memory is wanting only where there are to be elements
abbrev pub Allocates : Kind → List ℕ → List ℤ → List Slot → List Slot → Result (Unit {0}) Failure → Type 0
Allocates k x ns old new (Ok r) =
    (free ((store_among old).bounds x) ns ≡ Ok (from_one ns))
    × (HoldsKind k x old → store_among new ≡ allocated x (from_one ns) (store_among old))
Allocates k x ns old new (Err (failure.Fault f)) = (free ((store_among old).bounds x) ns ≡ Err f) × (new ≡ old)
Allocates k x ns old new (Err failure.Memory) = (new ≡ old) × (0 < elements_of (from_one ns))

abbrev pub Deallocates : List ℕ → List Slot → List Slot → Result (Unit {0}) Fault → Type 0
Deallocates x old new (Ok r) =
    ((bs : List (ℤ × ℤ)) × (stored_bounds x (store_among old) ≡ Ok bs))
    × (store_among new ≡ with_bounds x None (store_among old))
Deallocates x old new (Err f) = (stored_bounds x (store_among old) ≡ Err f) × (new ≡ old)
