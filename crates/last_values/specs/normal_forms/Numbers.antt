-- The number that a form is, where its loops are at these iterations and its symbols and divided trips have these
-- values.
use Rattle.std.specs.Prelude.{◌≡◌, Some, ℕ, zero, suc, ◌+◌, ℤ, pos, ◌+ℤ◌, ◌-ℤ◌, ◌*ℤ◌, nat_abs, int_div, List, [], ◌∷◌}
use Rattle.std.specs.Prelude.{◌++◌, map, length}
use Rattle.tree.specs.Plain.{Expression}
use Rattle.linear_forms.specs.Linear.{Form, form_of, number_at}
use Rattle.nest.specs.Plain.{Loop}
use Rattle.nest.specs.declared.parts.Trip.{Trip}
use Rattle.subscripts.specs.declared.affine.Affine.{Affine}
use Rattle.last_values.specs.declared.normal_forms.combinations.Multiple.{Multiple}
use Rattle.last_values.specs.declared.normal_forms.loops.NormalLoop.{NormalLoop}
use Rattle.last_values.specs.declared.normal_forms.places.Place.TheVariants as place
use Rattle.last_values.specs.normal_forms.Combinations.{number_of_place, combination}
use Rattle.last_values.specs.normal_forms.NormalLoops.{variables_of, bound_form, sign_of, normal_loop}

-- n products, from the j-th on
abbrev pub products : ℕ → ℕ → (ℕ → ℤ) → (ℕ → ℤ) → ℤ
products zero j c x = pos 0
products (suc n) j c x = c j *ℤ x j +ℤ products n (j + 1) c x

-- n places are those of symbols and divided trips
module _ (n : ℕ) (iterations values : ℕ → ℤ) where
  abbrev pub number_of_form : Affine → ℤ
  number_of_form a =
      products 7 0 (λ k. number_of_place a (place.Loop k)) iterations
      +ℤ (products n 0 (λ j. number_of_place a (place.Symbol j)) values +ℤ number_of_place a place.Constant)

  abbrev pub sum_of_numbers : List Multiple → ℤ
  sum_of_numbers [] = pos 0
  sum_of_numbers (t ∷ ts) = t.times *ℤ number_of_form t.form +ℤ sum_of_numbers ts

-- a combination is, as a number, the sum of so many times each number
abbrev pub CombinationHasNumber : Type 0
CombinationHasNumber =
    (n : ℕ) (ts : List Multiple) (a : Affine) (iterations values : ℕ → ℤ)
    → combination n ts ≡ Some a
    → number_of_form n iterations values a ≡ sum_of_numbers n iterations values ts

-- ---- bounds of loops

-- n values from the j-th on
abbrev pub values_from : ℕ → ℕ → (ℕ → ℤ) → List ℤ
values_from zero j v = []
values_from (suc n) j v = v j ∷ values_from n (j + 1) v

-- the numbers that the variables of loops are
abbrev pub variable_numbers : ℕ → (ℕ → ℤ) → (ℕ → ℤ) → List NormalLoop → List ℤ
variable_numbers n iterations values rs = map (λ (r : NormalLoop). number_of_form n iterations values r.value) rs

-- A bound over the counters of the loops round it is, as a number, what the bound is where the variables of these loops
-- have the numbers of their forms, and the numbers of the further multiples
abbrev pub BoundHasNumber : Type 0
BoundHasNumber =
    (symbols : List (List ℕ)) (round : List NormalLoop) (e : Expression) (more : List Multiple)
    (f : Form) (a : Affine)
    (iterations values : ℕ → ℤ) → form_of (variables_of round) symbols e ≡ Some f
    → bound_form symbols round e more ≡ Some a
    → number_of_form (length symbols) iterations values a
    ≡ number_at f (variable_numbers (length symbols) iterations values round ++ values_from (length symbols) 0 values)
    +ℤ sum_of_numbers (length symbols) iterations values more

-- ---- loops

-- the quotient is rounded towards zero
abbrev pub trip_number : ℕ → (ℕ → ℤ) → (ℕ → ℤ) → Trip → ℤ
trip_number n iterations values t = int_div (number_of_form n iterations values t.top) t.by

-- The numbers of a loop from 1 by 1, where its bounds are m1 and m2 and its increment m3: that of its lower bound; that
-- of its variable, which is m1 in the first iteration and m3 more in each further one; and its trip
-- (m2 - m1 + m3) / m3, of which both sides are turned round for a negative increment
pub record LoopNumbers (n d : ℕ) (iterations values : ℕ → ℤ) (r : NormalLoop) (m1 m2 m3 : ℤ) : Type 0 where
  pub first : number_of_form n iterations values r.first ≡ m1
  pub value : number_of_form n iterations values r.value ≡ m1 +ℤ m3 *ℤ (iterations d -ℤ pos 1)
  pub trip :
      trip_number n iterations values r.trip ≡ int_div (sign_of m3 *ℤ ((m2 -ℤ m1) +ℤ m3)) (pos (nat_abs m3))

abbrev pub NormalLoopHasNumbers : Type 0
NormalLoopHasNumbers =
    (symbols : List (List ℕ)) (round : List NormalLoop) (l : Loop) (r : NormalLoop) (f g : Form)
    (iterations values : ℕ → ℤ) → normal_loop symbols round l ≡ Some r
    → form_of (variables_of round) symbols l.first ≡ Some f
    → form_of (variables_of round) symbols l.last ≡ Some g
    → let xs = variable_numbers (length symbols) iterations values round ++ values_from (length symbols) 0 values in
    LoopNumbers (length symbols) (length round) iterations values r (number_at f xs) (number_at g xs) l.step
