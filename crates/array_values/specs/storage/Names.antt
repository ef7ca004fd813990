-- The names in storage.
use Rattle.std.specs.Prelude.{ℕ, List, map}
use Rattle.array_values.specs.declared.storage.slots.Slot.{Slot}

abbrev pub own_names : List Slot → List (List ℕ)
own_names vs = map (λ (v : Slot). v.name) vs
