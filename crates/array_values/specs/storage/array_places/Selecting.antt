-- What a reference selects (ISO/IEC 1539:1991, section 6.2.2).
use Rattle.std.specs.Prelude.{◌≡◌, Result, Ok, Err, ◌<◌, ℤ, List, map, length, All}
use Rattle.tree.specs.declared.ops.Fault.{Fault}
use Rattle.meaning.specs.Store.{column_major}
use Rattle.meaning.specs.ArrayValues.{size}
use Rattle.meaning.specs.Sections.{Axis, numbers_of, extents_of}
use Rattle.meaning.specs.Extents.{elements_of}
use Rattle.machine.specs.Storage.{offset}
use Rattle.array_values.specs.declared.failure.Failure.{Failure}
use Rattle.array_values.specs.declared.failure.Failure.TheVariants as failure
use Rattle.array_values.specs.declared.storage.array_places.selection.Selection.{Selection}
use Rattle.array_values.specs.storage.array_places.Places.{somes}

-- the extents and the places are those of what is selected along these axes, in column-major order
pub record IsSelection (bs : List (ℤ × ℤ)) (axes : List Axis) (t : Selection) : Type 0 where
  pub extents : t.extents ≡ extents_of axes
  pub places : map (offset bs) (column_major (map numbers_of axes)) ≡ somes t.places
  pub count : length t.places ≡ size t.extents
  pub within : All (λ k. k < elements_of bs) t.places

pub record SelectsThese (bs : List (ℤ × ℤ)) (q : Result (List Axis) Fault) (t : Selection) : Type 0 where
  pub axes : List Axis
  pub are : q ≡ Ok axes
  pub selected : IsSelection bs axes t

abbrev pub Selects : List (ℤ × ℤ) → Result (List Axis) Fault → Result Selection Failure → Type 0
Selects bs q (Ok t) = SelectsThese bs q t
Selects bs q (Err (failure.Fault f)) = q ≡ Err f
Selects bs q (Err failure.Memory) = Unit {0}
