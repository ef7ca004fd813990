-- Where array forms are written: the declarations, and what stands round the statement.
use Rattle.std.specs.Prelude.{◌≡◌, ℕ, ◌≤◌, ◌<◌, ◌^◌, true, List, length, codes, Contains}
use Rattle.tree.specs.Plain.{Declaration}
use Rattle.meaning.specs.Typed90.{IsFree, IsIntegerScalar}
use Rattle.array_form.specs.forms.Loops.{FormLoop, FormSurroundings, form_names_of, form_variables_of}
use Rattle.array_form.specs.forms.Trips.{AreDistinct}
use Rattle.linear_forms.specs.Linear.{is_limited}

-- By the declarations loop variables and symbols are INTEGER scalars, no two of one name, in at most seven loops; trips
-- are linear forms within the limits, over these names; and no name hides a function that forms call
pub record IsWritable (ds : List Declaration) (a : FormSurroundings) : Type 0 where
  pub few : length a.loops ≤ 7
  pub distinct : AreDistinct (form_names_of a)
  pub integers : (x : List ℕ) → Contains (form_names_of a) x → IsIntegerScalar ds x
  pub limits : (l : FormLoop) → Contains a.loops l → is_limited (length a.loops) l.trip.form ≡ true
  pub short : (l : FormLoop) → Contains a.loops l → length l.trip.form.coefficients ≤ length (form_names_of a)
  pub divisors : (l : FormLoop) → Contains a.loops l → (1 ≤ l.trip.divisor) × (l.trip.divisor < 2 ^ 127)
  pub spread : a.may_spread ≡ true → IsFree ds (codes "SPREAD")
  pub transpose : IsFree ds (codes "TRANSPOSE")
  pub reshape : IsFree ds (codes "RESHAPE")

-- some of the loops, each of them once
pub record AreSomeLoops (a : FormSurroundings) (D : List FormLoop) : Type 0 where
  pub among : (l : FormLoop) → Contains D l → Contains a.loops l
  pub once : AreDistinct (form_variables_of D)
