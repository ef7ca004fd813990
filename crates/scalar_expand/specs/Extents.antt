-- The extents of an array that has an element for each iteration of some loops: each is the greatest trip that its loop
-- has, whatever the iterations of the loops round it are.
use Rattle.std.specs.Prelude.{Option, Some, None, ℕ, suc, ◌+◌, ◌*◌, nat_le, nat_abs, ℤ, pos, int_lt, Bool}
use Rattle.std.specs.Prelude.{is_some, ◌&&◌, if◌then◌else◌, List, [], ◌∷◌, ◌++◌, length, slice_index_or}
use Rattle.std.specs.List.{list_all}
use Rattle.tree.specs.Limits.{array_dimensions, most_array_elements, form_coefficient}
use Rattle.linear_forms.specs.Linear.{is_small}
use Rattle.nest.specs.declared.parts.Trip.{Trip}
use Rattle.subscripts.specs.declared.affine.Affine.{Affine}
use Rattle.last_values.specs.declared.normal_forms.combinations.Multiple.{Multiple}
use Rattle.last_values.specs.declared.normal_forms.places.Place.TheVariants as place
use Rattle.last_values.specs.normal_forms.Combinations.{number_of_place, combination, number_form, times, without_loops}
use Rattle.last_values.specs.normal_forms.Combinations.{zero_loops}
use Rattle.last_values.specs.normal_forms.NormalLoops.{is_positive, is_undivided, loop_form, trip_of}
use Rattle.last_values.specs.normal_forms.Steps.{◌>>=◌}

-- ---- the greatest trip

-- the extent of the k-th loop as a form: a quotient can't stand in one, and has the loop's place
abbrev pub extent_form : ℕ → Trip → Affine
extent_form k t = if is_undivided t then t.top else loop_form k

-- so many times what the variable of the k-th loop may be at most: its extent, or 1 where a smaller value gives more
unfoldable pub greatest : ℤ → ℕ → Trip → Multiple
greatest c k t = times c (if int_lt (pos 0) c then extent_form k t else number_form (pos 1))

-- what the loops of a form add to it at most, from the k-th on, where they have these extents
abbrev pub greatest_from : ℕ → Affine → List Trip → List Multiple
greatest_from k a [] = []
greatest_from k a (t ∷ ts) = greatest (number_of_place a (place.Loop k)) k t ∷ greatest_from (k + 1) a ts

-- n is how many symbols there are
module _ (n : ℕ) where
  -- the extent of a loop with this trip, under loops with these extents
  unfoldable pub extent_under : List Trip → Trip → Option Trip
  extent_under ts t = do
    a ← combination n (greatest_from 0 t.top ts ++ times (pos 1) (without_loops t.top) ∷ [])
    Some (trip_of a t.by)

  -- those of loops with these trips, from the outside in, behind these extents
  abbrev pub extents_under : List Trip → List Trip → Option (List Trip)
  extents_under ts [] = Some ts
  extents_under ts (t ∷ us) = do
    e ← extent_under ts t
    extents_under (ts ++ e ∷ []) us

-- ---- their sizes

-- the size of a number; past the limit of linear forms one is as large as another
abbrev pub size_of_number : ℤ → ℤ
size_of_number z = if is_small z then pos (nat_abs z) else pos (suc form_coefficient)

abbrev pub sized_term : ℕ × ℤ → ℕ × ℤ
sized_term t = (t.0, size_of_number t.1)

abbrev pub sized_terms : List (ℕ × ℤ) → ℕ → ℕ × ℤ
sized_terms ts k = sized_term (slice_index_or ts k (0, pos 0))

-- a form's eight symbols and its constant, each by its size
unfoldable pub sized : Affine → Affine
sized a = record {
  loops = zero_loops;
  syms =
      sized_terms a.syms 0 ∷ sized_terms a.syms 1 ∷ sized_terms a.syms 2 ∷ sized_terms a.syms 3 ∷ sized_terms a.syms 4
      ∷ sized_terms a.syms 5 ∷ sized_terms a.syms 6 ∷ sized_terms a.syms 7 ∷ [];
  constant = size_of_number a.constant;
}

unfoldable pub greatest_size : ℤ → Affine → Multiple
greatest_size c size = times (size_of_number c) (if int_lt (pos 0) c then size else number_form (pos 1))

abbrev pub sizes_from : ℕ → Affine → List Affine → List Multiple
sizes_from k a [] = []
sizes_from k a (f ∷ fs) = greatest_size (number_of_place a (place.Loop k)) f ∷ sizes_from (k + 1) a fs

module _ (n : ℕ) where
  -- an extent that isn't divided, with each coefficient and each constant by its size, so that no terms cancel
  unfoldable pub size_under : List Affine → Trip → Option Affine
  size_under fs t = combination n (sizes_from 0 t.top fs ++ times (pos 1) (sized t.top) ∷ [])

  abbrev pub sizes_under : List Affine → List Trip → Option (List Affine)
  sizes_under fs [] = Some fs
  sizes_under fs (t ∷ us) = do
    f ← size_under fs t
    sizes_under (fs ++ f ∷ []) us

  -- the sizes keep the limits of linear forms
  abbrev pub sizes_fit : List Trip → Bool
  sizes_fit ts = is_some (sizes_under [] ts)

-- ---- their number

abbrev pub known_extent : Trip → ℕ
known_extent t = if is_positive t then nat_abs t.top.constant else 1

-- how many elements there are by those extents that are constants
abbrev pub known_elements : List Trip → ℕ
known_elements [] = 1
known_elements (t ∷ ts) = known_extent t * known_elements ts

abbrev pub are_few : List Trip → Bool
are_few ts = nat_le (known_elements ts) most_array_elements

abbrev pub if_few : List Trip → Option (List Trip)
if_few ts = if are_few ts then Some ts else None

-- ---- all of them

-- at most seven loops, each with the divisor of its trip
abbrev pub are_counted : List Trip → Bool
are_counted ts = nat_le (length ts) array_dimensions && list_all (λ (t : Trip). int_lt (pos 0) t.by) ts

-- The extents of loops with these trips, from the outside in. The array is allocated also where the loops aren't
-- entered, so no extent may overflow, whatever the symbols hold; and as far as its extents are known it has no more
-- elements than a program may declare
unfoldable pub extents_of_trips : ℕ → List Trip → Option (List Trip)
extents_of_trips n ts = if are_counted ts && sizes_fit n ts then extents_under n [] ts >>= if_few else None
