-- The forms of the program as plain forms, and how large their numbers are.
use Rattle.std.specs.Prelude.{◌≡◌, ℕ, ◌≤◌, ◌<◌, ◌+◌, ◌*◌, ◌^◌, ℤ, pos, nat_abs, Bool, true, false, Option, Some, None}
use Rattle.std.specs.Prelude.{List, [], ◌∷◌, slice_index_or}
use Rattle.linear_forms.specs.Linear.{Form}
use Rattle.find_nests.specs.declared.bound_limits.forms.WideForm.{WideForm}
use Rattle.find_nests.specs.declared.bound_limits.around.Outer.{Outer as Outer'}
use Rattle.find_nests.specs.bound_limits.Composed.{Outer}

abbrev pub wide_form_of : WideForm → Form
wide_form_of w = record { coefficients = w.coefficients.items; constant = w.constant }

abbrev pub outer_of : Outer' → Outer
outer_of r = record { variable = r.variable; form = wide_form_of r.form }

-- at most b in size
pub record IsSized (b : ℕ) (f : Form) : Type 0 where
  pub coefficients : (j : ℕ) → nat_abs (slice_index_or f.coefficients j (pos 0)) ≤ b
  pub constant : nat_abs f.constant ≤ b

-- f and k times g can be added in 128 bits
pub record CanAdd (f : Form) (k : ℤ) (g : Form) : Type 0 where
  pub coefficients : (j : ℕ) → nat_abs (slice_index_or f.coefficients j (pos 0))
      + nat_abs k * nat_abs (slice_index_or g.coefficients j (pos 0)) < 2 ^ 127
  pub constant : nat_abs f.constant + nat_abs k * nat_abs g.constant < 2 ^ 127

abbrev pub AreSmall : List Outer → Type 0
AreSmall [] = Unit {0}
AreSmall (r ∷ rs) = IsSized (2 ^ 41) r.form × AreSmall rs

-- the loop, where it keeps the limits
abbrev pub IsInner : Bool → Outer → Option Outer' → Type 0
IsInner leaves outer None = leaves ≡ true
IsInner leaves outer (Some r) = (leaves ≡ false) × (outer_of r ≡ outer) × IsSized (2 ^ 41) (wide_form_of r.form)
