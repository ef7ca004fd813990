-- What an array assignment stores (ISO/IEC 1539:1991, section 7.5).
use Rattle.std.specs.Prelude.{◌≡◌, Result, Ok, Err, ℕ, ℤ, List, map}
use Rattle.std.specs.List.{zip, AllByRecursion}
use Rattle.tree.specs.Steps.{◌>>=◌}
use Rattle.tree.specs.declared.ops.Value.{Value}
use Rattle.tree.specs.declared.ops.Fault.{Fault}
use Rattle.meaning.specs.Dialect.{Dialect}
use Rattle.meaning.specs.Store.{Cell}
use Rattle.meaning.specs.ArrayValues.{Elements, each, positions}
use Rattle.meaning.specs.Sections.{Axis, extents_of, cells_along}
use Rattle.meaning.specs.ArrayStatements.{where_true, second, storable}
use Rattle.machine.specs.Storage.{offset}
use Rattle.array_values.specs.declared.failure.Failure.{Failure}
use Rattle.array_values.specs.declared.failure.Failure.TheVariants as failure
use Rattle.array_values.specs.declared.storage.array_places.writes.Writes.{Writes}
use Rattle.array_values.specs.storage.array_places.Places.{somes}

-- the later stages of an array assignment to what is selected of the name x, under a mask
abbrev pub stored_under : Dialect → Elements Value → List ℕ → List Axis → Elements Value
    → Result (List (Cell × Value)) Fault
stored_under d mask x axes g = do
  chosen ← where_true mask (zip (positions (extents_of axes)) (cells_along x axes))
  xs ← each (λ p. g.at p.0) chosen
  vs ← each (storable d) xs
  Ok (zip (map second chosen) vs)

-- the places and the values are those of these cells of the name x
pub record AreWrites (bs : List (ℤ × ℤ)) (x : List ℕ) (w : Writes) (ws : List (Cell × Value)) : Type 0 where
  pub names : AllByRecursion (λ (p : Cell × Value). p.0.name ≡ x) ws
  pub places : map (λ (p : Cell × Value). offset bs p.0.subscripts) ws ≡ somes w.places
  pub values : map second ws ≡ w.values

pub record StoresThese (bs : List (ℤ × ℤ)) (x : List ℕ) (q : Result (List (Cell × Value)) Fault) (w : Writes)
    : Type 0 where
  pub writes : List (Cell × Value)
  pub are : q ≡ Ok writes
  pub stored : AreWrites bs x w writes

abbrev pub Stores : List (ℤ × ℤ) → List ℕ → Result (List (Cell × Value)) Fault → Result Writes Failure → Type 0
Stores bs x q (Ok w) = StoresThese bs x q w
Stores bs x q (Err (failure.Fault f)) = q ≡ Err f
Stores bs x q (Err failure.Memory) = Unit {0}
