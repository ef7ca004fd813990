-- What an array assignment stores, and where (ISO/IEC 1539:1991, section 7.5.1.5).
use Rattle.std.specs.Prelude.{◌≡◌, Result, Ok, Err, ℕ, List, [], ◌∷◌, length}
use Rattle.std.specs.List.{AllByRecursion}
use Rattle.tree.specs.declared.ops.Value.{Value}
use Rattle.tree.specs.declared.ops.Fault.{Fault}
use Rattle.meaning.specs.Store.{Cell}
use Rattle.array_values.specs.declared.failure.Failure.{Failure}
use Rattle.array_values.specs.declared.failure.Failure.TheVariants as failure
use Rattle.array_values.specs.declared.storage.slots.Slot.{Slot}
use Rattle.array_values.specs.storage.Slots.{IsWithin}
use Rattle.array_values.specs.storage.Targets.{place_of}
use Rattle.array_expressions.specs.declared.assignments.arrays.Plan.{Plan}
use Rattle.array_expressions.specs.assignments.Placing.{IsAt}

-- these values stand at these places of a name's: one place for each value, and the cells are those at these places
abbrev pub ArePlaced : List Slot → ℕ → List (Cell × Value) → List ℕ → List Value → Type 0
ArePlaced vs slot [] [] [] = Unit {0}
ArePlaced vs slot (w ∷ ws) (k ∷ ks) (x ∷ xs) = (w.1 ≡ x) × IsAt vs w.0 (place_of slot k) × ArePlaced vs slot ws ks xs
ArePlaced vs slot ws ks xs = ⊥

-- there is a place for each value
pub record IsSound (vs : List Slot) (p : Plan) : Type 0 where
  pub count : length p.writes.values ≡ length p.writes.places
  pub within : AllByRecursion (λ k. IsWithin vs (place_of p.slot k)) p.writes.places

abbrev pub Stores : List Slot → List (Cell × Value) → Plan → Type 0
Stores vs ws p = ArePlaced vs p.slot ws p.writes.places p.writes.values

-- what is stored, and where
abbrev pub Plans : List Slot → Result (List (Cell × Value)) Fault → Result Plan Failure → Type 0
Plans vs q (Ok p) = (ws : List (Cell × Value)) × (q ≡ Ok ws) × Stores vs ws p
Plans vs q (Err (failure.Fault f)) = q ≡ Err f
Plans vs q (Err failure.Memory) = Unit {0}
