-- What a reference to an array selects (ISO/IEC 1539:1991, section 6.2.2).
use Rattle.std.specs.Prelude.{Result, Ok, Err, ℕ, zero, suc, ℤ, pos, negsuc, ◌+ℤ◌, ◌-ℤ◌, int_div, int_le, Bool, true}
use Rattle.std.specs.Prelude.{◌&&◌, if◌then◌else◌, List, [], ◌∷◌, map, length}
use Rattle.std.specs.Ordering.{int_eq}
use Rattle.tree.specs.Steps.{◌>>=◌}
use Rattle.tree.specs.Plain.{Subscripts, no_subscripts, subscript}
use Rattle.tree.specs.declared.ops.Fault.{Fault}
use Rattle.tree.specs.declared.ops.Fault.TheVariants.{Bounds, ZeroStep}
use Rattle.meaning.specs.Store.{Cell, numbers_from, size_of, column_major}

-- a subscript whose expressions are evaluated: one number, a triplet of lower bound, upper bound and stride, or numbers
-- of rank one
pub data Selector : Type 0 where
  Index : ℤ → Selector
  Triplet : ℤ → ℤ → ℤ → Selector
  Vector : List ℤ → Selector

-- what is selected along one dimension: one number, which leaves no dimension, or a list
pub data Axis : Type 0 where
  Fixed : ℤ → Axis
  Along : List ℤ → Axis

abbrev pub not_negative : ℤ → ℕ
not_negative (pos n) = n
not_negative (negsuc n) = 0

abbrev pub steps_from : ℤ → ℤ → ℕ → List ℤ
steps_from z stride zero = []
steps_from z stride (suc n) = z ∷ steps_from (z +ℤ stride) stride n

-- the numbers of a triplet whose stride isn't 0; there may be none
abbrev pub triplet_numbers : ℤ → ℤ → ℤ → List ℤ
triplet_numbers l u stride = steps_from l stride (not_negative (int_div (u -ℤ l +ℤ stride) stride))

abbrev pub is_within_bounds : ℤ × ℤ → ℤ → Bool
is_within_bounds b z = int_le b.0 z && int_le z b.1

abbrev pub all_stand_in : ℤ × ℤ → List ℤ → Bool
all_stand_in b [] = true
all_stand_in b (z ∷ zs) = is_within_bounds b z && all_stand_in b zs

abbrev pub along : ℤ × ℤ → List ℤ → Result Axis Fault
along b zs = if all_stand_in b zs then Ok (Along zs) else Err Bounds

-- only what is selected has to stand within the bounds
abbrev pub axis_on : ℤ × ℤ → Selector → Result Axis Fault
axis_on b (Index z) = if is_within_bounds b z then Ok (Fixed z) else Err Bounds
axis_on b (Triplet l u stride) = if int_eq stride (pos 0) then Err ZeroStep else along b (triplet_numbers l u stride)
axis_on b (Vector zs) = along b zs

-- dimension by dimension
abbrev pub axes_on : List (ℤ × ℤ) → List Selector → Result (List Axis) Fault
axes_on [] [] = Ok []
axes_on (b ∷ bs) (p ∷ ps) = do
  a ← axis_on b p
  axes ← axes_on bs ps
  Ok (a ∷ axes)
axes_on _ _ = Err Bounds

abbrev pub whole_axes : List (ℤ × ℤ) → List Axis
whole_axes bs = map (λ b. Along (numbers_from b.0 (size_of b))) bs

-- without subscripts a name stands for all of its array
abbrev pub axes_selected : Subscripts → List (ℤ × ℤ) → List Selector → Result (List Axis) Fault
axes_selected no_subscripts bs zs = Ok (whole_axes bs)
axes_selected (subscript p ps) bs zs = axes_on bs zs

abbrev pub numbers_of : Axis → List ℤ
numbers_of (Fixed z) = z ∷ []
numbers_of (Along zs) = zs

abbrev pub extents_of : List Axis → List ℕ
extents_of [] = []
extents_of (Fixed z ∷ axes) = extents_of axes
extents_of (Along zs ∷ axes) = length zs ∷ extents_of axes

-- in column-major order
abbrev pub cells_along : List ℕ → List Axis → List Cell
cells_along x axes = map (λ is. record { name = x; subscripts = is }) (column_major (map numbers_of axes))
