-- Bounds of arrays, and how many elements they make.
use Rattle.std.specs.Prelude.{◌≡◌, ℕ, ℤ, FitsSigned, IsTrue, Bool, false, Option, None, Some, List, [], map, sum}
use Rattle.std.specs.Int.{w64}
use Rattle.std.specs.List.{list_any}
use Rattle.tree.specs.Plain.{Declaration}
use Rattle.tree.specs.View.{bounds_of}
use Rattle.tree.specs.declared.programs.Dim.{Dim}
use Rattle.meaning.specs.Extents.{array_elements, IsDimension}
use Rattle.meaning.specs.Typed.{dimensions}
use Rattle.f90_grammar.specs.Contents.{is_wide_literal, is_wide_dimension}
use Rattle.f90_grammar.specs.Forms as forms
use Rattle.f90_grammar.specs.Reading.{bound_value, dimension_bounds}
use Rattle.f90_statement.specs.declared.nodes.Entity.{Entity}
use Rattle.f90_statement.specs.declared.nodes.Statement.{Statement}
use Rattle.f90_statement.specs.declared.nodes.Statement.TheVariants.{Declare}

-- the value of a bound, if its literal isn't too great
abbrev pub IsValueOf : Option ℤ → forms.Bound90 → Type 0
IsValueOf None b = IsTrue (is_wide_literal b.digits)
IsValueOf (Some z) b = (z ≡ bound_value b) × (is_wide_literal b.digits ≡ false)

-- its value, if 64 bits hold it
abbrev pub IsNarrowOf : Option ℤ → forms.Bound90 → Type 0
IsNarrowOf None b = FitsSigned w64 (bound_value b) → ⊥
IsNarrowOf (Some z) b = (z ≡ bound_value b) × FitsSigned w64 (bound_value b)

-- both bounds of a dimension, if 64 bits hold them
abbrev pub IsDimOf : Option Dim → forms.Dimension → Type 0
IsDimOf None d = IsDimension (dimension_bounds d) → ⊥
IsDimOf (Some dim) d = (bounds_of dim ≡ dimension_bounds d) × IsDimension (dimension_bounds d)

-- a bound of it is too great
abbrev pub are_wide : forms.EntityForm90 → Bool
are_wide e = list_any is_wide_dimension e.dimensions

abbrev pub given_bounds : forms.EntityForm90 → List (ℤ × ℤ)
given_bounds e = map dimension_bounds e.dimensions

-- the names of a statement that aren't allocatable
abbrev pub given_in : Statement → List Entity
given_in (Declare k false es) = es
given_in s = []

-- the elements of arrays that aren't allocatable
abbrev pub elements_in : List forms.EntityForm90 → ℕ
elements_in es = sum (map (λ (e : forms.EntityForm90). array_elements (given_bounds e)) es)

-- the elements of all arrays
abbrev pub all_elements : List Declaration → ℕ
all_elements ds = sum (map (λ (d : Declaration). array_elements (dimensions d.extent)) ds)
