-- The number of a trip, and loops whose variables are distinct.
use Rattle.std.specs.Prelude.{◌≡◌, ℕ, ◌==◌, ℤ, pos, int_div, false, if◌then◌else◌, List, [], ◌∷◌}
use Rattle.linear_forms.specs.Linear.{number_at}
use Rattle.array_form.specs.forms.Loops.{FormTrip, is_among}

abbrev pub divided : ℕ → ℤ → ℤ
divided n z = if n == 1 then z else int_div z (pos n)

abbrev pub trip_number : FormTrip → List ℤ → ℤ
trip_number t xs = divided t.divisor (number_at t.form xs)

abbrev pub AreDistinct : List (List ℕ) → Type 0
AreDistinct [] = Unit {0}
AreDistinct (y ∷ ys) = (is_among ys y ≡ false) × AreDistinct ys
