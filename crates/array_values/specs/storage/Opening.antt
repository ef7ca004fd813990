-- The names as they are when a run begins.
use Rattle.std.specs.Prelude.{◌≡◌, Option, Some, None, ℕ, ℤ, Bool, true, false, List}
use Rattle.std.specs.Option.{option_map}
use Rattle.tree.specs.Plain.{Extent, Given, Later, Declaration}
use Rattle.meaning.specs.Store.{nought}
use Rattle.meaning.specs.Typed.{declared}
use Rattle.array_values.specs.declared.storage.slots.Slot.{Slot}
use Rattle.array_values.specs.storage.Slots.{bounds_now, held_here, kind_among}

-- whether an array has its elements from the beginning
abbrev pub is_given : Extent → Bool
is_given (Given bs) = true
is_given (Later n) = false

abbrev pub given : Extent → Option (List (ℤ × ℤ))
given (Given bs) = Some bs
given (Later n) = None

-- the slot is that of the declared name when a run begins
pub record IsOpened (d : Declaration) (v : Slot) : Type 0 where
  pub name : v.name ≡ d.name
  pub kind : v.kind ≡ d.kind
  pub bounds : bounds_now v ≡ given d.extent
  pub values : (is : List ℤ) → held_here v is ≡ nought d.kind

-- each name has the kind that is declared
abbrev pub KindsAreDeclared : List Declaration → List Slot → Type 0
KindsAreDeclared ds vs = (x : List ℕ) → kind_among vs x ≡ option_map (λ (d : Declaration). d.kind) (declared ds x)
