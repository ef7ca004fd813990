-- The turns of a loop from 1 to its trip by 1, by what is known of the trip.
use Rattle.std.proofs.Common.{◌≡◌, refl, sym, ap, ◌∙◌, subst, ℕ, zero, suc, ◌≤◌, ◌<◌, ℤ, pos, negsuc, ◌+ℤ◌, ◌*ℤ◌, true}
use Rattle.std.proofs.Common.{false, ◌&&◌, arith}
use Rattle.std.specs.Prelude.{int_le, int_lt, int_div, int_rem, unsigned_abs}
use Rattle.std.proofs.lemmas.Bool.Decides.{Decides-int_eq}
use Rattle.std.proofs.lemmas.Int.{ints, quot-rem, rem_below}
use Rattle.linear_forms.proofs.Sizes.{both}
use Rattle.nest_order.proofs.runs.Ending.{turns_to}
use Rattle.nest_order.proofs.runs.Results.{true_false}
use Rattle.nest.specs.declared.parts.Trip.{Trip}
use Rattle.last_values.specs.normal_forms.NormalLoops.{is_constant, is_known, is_positive, is_undivided}
use Rattle.last_values.specs.normal_forms.Numbers.{number_of_form, trip_number}
use Rattle.pass_laws.proofs.NormalRuns.Numbers.{constant_number}

pub some_turn : (z : ℤ) → int_le (pos 1) z ≡ true → 1 ≤ turns_to z
some_turn (pos zero) h = let no : ⊥ = cc in absurd no
some_turn (pos (suc n)) h = omega arith
some_turn (negsuc n) h = let no : ⊥ = cc in absurd no

pub no_turn : (z : ℤ) → int_le (pos 1) z ≡ false → turns_to z ≡ 0
no_turn (pos zero) h = refl
no_turn (pos (suc n)) h = let one : int_le (pos 1) (pos (suc n)) ≡ true = grind (arith, ints) in absurd (true_false (sym one ∙ h))
no_turn (negsuc n) h = refl

positive_turn : (z : ℤ) → int_lt (pos 0) z ≡ true → 1 ≤ turns_to z
positive_turn (pos zero) h = let no : ⊥ = cc in absurd no
positive_turn (pos (suc n)) h = omega arith
positive_turn (negsuc n) h = let no : ⊥ = cc in absurd no

not_positive_turn : (z : ℤ) → int_lt (pos 0) z ≡ false → turns_to z ≡ 0
not_positive_turn (pos zero) h = refl
not_positive_turn (pos (suc n)) h = let one : int_lt (pos 0) (pos (suc n)) ≡ true = grind (arith, ints) in absurd (true_false (sym one ∙ h))
not_positive_turn (negsuc n) h = refl

small_is_zero : (z : ℤ) → unsigned_abs z < 1 → z ≡ pos 0
small_is_zero (pos zero) h = refl
small_is_zero (pos (suc n)) h = absurd (omega (arith, ints, h))
small_is_zero (negsuc n) h = absurd (omega (arith, ints, h))

by_one : (z : ℤ) → int_div z (pos 1) ≡ z
by_one z =
    let whole = quot-rem z (pos 1) in
    let none = small_is_zero (int_rem z (pos 1)) (rem_below z (pos 1) (omega arith)) in
    alone (int_div z (pos 1)) (int_rem z (pos 1)) z whole none
  where
    alone : (q r z : ℤ) → q *ℤ pos 1 +ℤ r ≡ z → r ≡ pos 0 → q ≡ z
    alone q r z h e = omega (arith, ints, h, e)

module _ (n : ℕ) (iterations values : ℕ → ℤ) (t : Trip) where
  -- a constant trip
  known_number : is_known t ≡ true → trip_number n iterations values t ≡ t.top.constant
  known_number h =
      let p = both (is_undivided t) (is_constant t.top) h in
      let divisor = (Decides-int_eq t.by (pos 1)).0 p.0 in
      ap (λ d. int_div (number_of_form n iterations values t.top) d) divisor ∙ (by_one (number_of_form n iterations values t.top) ∙ constant_number n iterations values t.top p.1)

  pub positive_turns : is_positive t ≡ true → 1 ≤ turns_to (trip_number n iterations values t)
  positive_turns h =
      let p = both (is_known t) (int_lt (pos 0) t.top.constant) h in
      subst (λ z. 1 ≤ turns_to z) (sym (known_number p.0)) (positive_turn t.top.constant p.1)

  pub known_turns : is_known t ≡ true → is_positive t ≡ false → turns_to (trip_number n iterations values t) ≡ 0
  known_turns h k =
      let p : int_lt (pos 0) t.top.constant ≡ false = sym (ap (λ b. b && int_lt (pos 0) t.top.constant) h) ∙ k in
      ap turns_to (known_number h) ∙ not_positive_turn t.top.constant p
