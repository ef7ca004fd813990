-- How many elements an array has, and the dimensions of an array in Fortran 90.
use Rattle.std.specs.Prelude.{ℕ, ◌*◌, ℤ, List, [], ◌∷◌, FitsSigned}
use Rattle.meaning.specs.Store.{size_of}
use Rattle.std.specs.Int.{w64}
use Rattle.tree.specs.Plain.{Extent, Given, Later}

abbrev pub elements_of : List (ℤ × ℤ) → ℕ
elements_of [] = 1
elements_of (b ∷ bs) = size_of b * elements_of bs

-- a scalar has none
abbrev pub array_elements : List (ℤ × ℤ) → ℕ
array_elements [] = 0
array_elements (b ∷ bs) = elements_of (b ∷ bs)

-- a dimension whose upper bound is below the lower one has no elements
pub record IsDimension (b : ℤ × ℤ) : Type 0 where
  pub lower : FitsSigned w64 b.0
  pub upper : FitsSigned w64 b.1

abbrev pub IsAllocatable : Extent → Type 0
IsAllocatable (Given bs) = ⊥
IsAllocatable (Later n) = Unit {0}
