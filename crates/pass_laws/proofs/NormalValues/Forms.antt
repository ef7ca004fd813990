-- The forms of a loop from 1 by 1 are within the limits, over the counters of the loops round it.
use mathlib.Core.Path.{ap₂}
use Rattle.std.proofs.Common.{◌≡◌, refl, sym, ap, ◌∙◌, subst, ℕ, zero, suc, ◌+◌, ◌/◌, ◌^◌, ◌≤◌, ◌<◌, ℤ, pos, negsuc}
use Rattle.std.proofs.Common.{neg_ℤ, ◌+ℤ◌, ◌*ℤ◌, Bool, true, false, cond, List, [], ◌∷◌, ◌++◌, length, get_or, Some}
use Rattle.std.proofs.Common.{arith}
use Rattle.std.specs.Prelude.{nat_abs, int_div, ◌==◌}
use Rattle.std.specs.List.{AllByRecursion}
use Rattle.std.proofs.lemmas.Bool.{leb-true, le-leb, eqb-true, eq-eqb}
use Rattle.std.proofs.lemmas.Int.{ints}
use Rattle.std.proofs.Math.Numerals.{add-one}
use Rattle.std.proofs.Math.Nat.{div-le_self}
use Rattle.linear_forms.specs.Linear.{Form, is_small}
use Rattle.nest.specs.Plain.{Loop}
use Rattle.nest.specs.declared.parts.Trip.{Trip}
use Rattle.subscripts.specs.declared.affine.Affine.{Affine}
use Rattle.last_values.specs.declared.normal_forms.combinations.Multiple.{Multiple}
use Rattle.last_values.specs.declared.normal_forms.loops.NormalLoop.{NormalLoop}
use Rattle.last_values.specs.declared.normal_forms.places.Place.TheVariants as place
use Rattle.last_values.specs.normal_forms.Combinations.{coefficient_in, number_of_place, combined_at, combination, affine_of, number_form}
use Rattle.last_values.specs.normal_forms.Combinations.{without_loops, times, zero_loops, no_symbols}
use Rattle.last_values.specs.normal_forms.NormalLoops as loops
use Rattle.last_values.specs.normal_forms.NormalLoops.{with_counters, one_at, loop_form, symbol_form, is_constant, is_undivided}
use Rattle.last_values.specs.normal_forms.NormalLoops.{trip_of, trip_form, sign_of}
use Rattle.last_values.specs.normal_forms.Numbers.{products, number_of_form}
use Rattle.last_values.proofs.NormalForms.Numbers.{Zeros, products-alike, products-zero, none_among_zeros, combination_has_number}
use Rattle.pass_laws.proofs.NormalValues.Affine.{IsTidy}
use Rattle.pass_laws.proofs.NormalValues.Combined.{AreWithout, without_sum, without_both, combination_tidy, number_tidy, no_loop}
use Rattle.pass_laws.proofs.NormalValues.Combined.{seven_zero}
use Rattle.pass_laws.proofs.NormalValues.Points.{products_more}
use Rattle.pass_laws.proofs.NormalValues.Steps.{IsMade, bound_sum}

-- ---- a single loop or symbol

pub unequal : (k d : ℕ) → (k ≡ d → ⊥) → (k == d) ≡ false
unequal k d h = by (k == d) refl
  where
    by : (b : Bool) → (k == d) ≡ b → b ≡ false
    by true e = absurd (h (eqb-true k d e))
    by false e = refl

other_loops : (d k : ℕ) → suc d ≤ k → get_or (loop_form d).loops k (pos 0) ≡ pos 0
other_loops d k h = seven_zero (one_at d) (suc d) (λ k m. ap (λ b. cond b (pos 1) (pos 0)) (unequal k d (λ e. omega (arith, m, e)))) k h

module _ (n : ℕ) (iterations values : ℕ → ℤ) where
  -- 1 for one loop
  one : (k : ℕ) → k < 7 → products 7 0 (λ j. number_of_place (loop_form k) (place.Loop j)) iterations ≡ iterations k
  one zero h = omega (arith, ints)
  one (suc zero) h = omega (arith, ints)
  one (suc (suc zero)) h = omega (arith, ints)
  one (suc (suc (suc zero))) h = omega (arith, ints)
  one (suc (suc (suc (suc zero)))) h = omega (arith, ints)
  one (suc (suc (suc (suc (suc zero))))) h = omega (arith, ints)
  one (suc (suc (suc (suc (suc (suc zero)))))) h = omega (arith, ints)
  one (suc (suc (suc (suc (suc (suc (suc k))))))) h = absurd (omega (arith, h))

  pub loop_number : (k : ℕ) → k < 7 → number_of_form n iterations values (loop_form k) ≡ iterations k
  loop_number k h =
      ap₂ (λ p q. p +ℤ (q +ℤ pos 0)) (one k h) (products-alike n 0 (λ j. coefficient_in no_symbols j) (λ j. pos 0) values (λ j m. none_among_zeros 8 j) ∙ products-zero n 0 values)
      ∙ zeros (iterations k)
    where
      zeros : (z : ℤ) → z +ℤ (pos 0 +ℤ pos 0) ≡ z
      zeros z = omega (arith, ints)

  pub symbol_number : number_of_form (suc n) iterations values (symbol_form n) ≡ values n
  symbol_number =
      let last : products (suc n) 0 (coefficient_in (symbol_form n).syms) values ≡ pos 0 +ℤ pos 1 *ℤ values n
      = products_more n 0 (coefficient_in (symbol_form n).syms) values
      ∙ ap₂ (λ p q. p +ℤ q) (products-alike n 0 (coefficient_in (symbol_form n).syms) (λ j. pos 0) values (λ j m. before j (omega (arith, m))) ∙ products-zero n 0 values) (ap₂ (λ x j. x *ℤ values j) (here (0 + n) (omega arith)) (omega arith)) in
      ap₂ (λ p q. p +ℤ (q +ℤ pos 0)) (products-alike 7 0 (λ k. get_or zero_loops k (pos 0)) (λ k. pos 0) iterations (λ k m. no_loop k) ∙ products-zero 7 0 iterations) last
      ∙ zeros (values n)
    where
      before : (j : ℕ) → j < n → coefficient_in (symbol_form n).syms j ≡ pos 0
      before j h = ap (λ b. cond b (pos 1) (coefficient_in (Zeros 7) j)) (unequal n j (λ e. omega (arith, h, e))) ∙ none_among_zeros 7 j

      here : (j : ℕ) → j ≡ n → coefficient_in (symbol_form n).syms j ≡ pos 1
      here j e = ap (λ b. cond b (pos 1) (coefficient_in (Zeros 7) j)) (eq-eqb n j (sym e))

      zeros : (z : ℤ) → pos 0 +ℤ ((pos 0 +ℤ pos 1 *ℤ z) +ℤ pos 0) ≡ z
      zeros z = omega (arith, ints)

  -- a form and so many times another one
  pub plus_is : (a b c : Affine) (z : ℤ) → combination n (times (pos 1) a ∷ times z b ∷ []) ≡ Some c → number_of_form n iterations values c ≡ number_of_form n iterations values a +ℤ z *ℤ number_of_form n iterations values b
  plus_is a b c z h =
      combination_has_number n (times (pos 1) a ∷ times z b ∷ []) c iterations values h ∙ simple (number_of_form n iterations values a) (z *ℤ number_of_form n iterations values b)
    where
      simple : (p q : ℤ) → pos 1 *ℤ p +ℤ (q +ℤ pos 0) ≡ p +ℤ q
      simple p q = omega (arith, ints)

-- ---- trips

pub quotient_size : (c : ℤ) (d : ℕ) → nat_abs (int_div c (pos d)) ≤ nat_abs c
quotient_size (pos m) d = div-le_self m d
quotient_size (negsuc m) d = subst (λ k. k ≤ suc m) (sym (turned (suc m / d))) (div-le_self (suc m) d)
  where
    turned : (k : ℕ) → nat_abs (neg_ℤ (pos k)) ≡ k
    turned zero = refl
    turned (suc k) = refl

quotient_small : (c : ℤ) (d : ℕ) → is_small c ≡ true → is_small (int_div c (pos d)) ≡ true
quotient_small c d h =
    let size = quotient_size c d in
    let few = leb-true (nat_abs c) (2 ^ 40) h in
    le-leb (nat_abs (int_div c (pos d))) (2 ^ 40) (omega (arith, size, few))

-- the quotient, folded where b says that the form is constant
abbrev pub folded_or : Affine → ℤ → Bool → Trip
folded_or a d b = cond b (record { top = number_form (int_div a.constant d); by = pos 1 }) (record { top = a; by = d })

trip_of_tidy : (d n k : ℕ) (a : Affine) → IsTidy d n a → IsTidy d n (trip_of a (pos k)).top
trip_of_tidy d n k a tidy = by (is_constant a)
  where
    by : (b : Bool) → IsTidy d n (folded_or a (pos k) b).top
    by true = number_tidy d n (int_div a.constant (pos k)) (quotient_small a.constant k tidy.constant_small)
    by false = tidy

-- ---- the loops round a loop

-- the values of variables are forms of the first d counters
abbrev pub AreOver : ℕ → List NormalLoop → Type 0
AreOver d rs = AllByRecursion (λ (r : NormalLoop). (k : ℕ) → d ≤ k → get_or r.value.loops k (pos 0) ≡ pos 0) rs

pub over_more : (d : ℕ) (rs : List NormalLoop) (r : NormalLoop) → AreOver d rs → ((k : ℕ) → suc d ≤ k → get_or r.value.loops k (pos 0) ≡ pos 0) → AreOver (suc d) (rs ++ r ∷ [])
over_more d [] r h g = (g, tt)
over_more d (q ∷ rs) r h g = (λ k m. h.0 k (omega (arith, m)), over_more d rs r h.1 g)

values_without : (d k : ℕ) → d ≤ k → (j : ℕ) (a : Affine) (rs : List NormalLoop) → AreOver d rs → AreWithout k (loops.variable_values_from j a rs)
values_without d k m j a [] h = tt
values_without d k m j a (r ∷ rs) h = (h.0 k m, values_without d k m (j + 1) a rs h.1)

module _ (symbols : List (List ℕ)) (round : List NormalLoop) (l : Loop) (r : NormalLoop) (made : IsMade symbols round l r) (over : AreOver (length round) round) where
  abbrev d : ℕ
  d = length round

  abbrev n : ℕ
  n = length symbols

  bound_without : (f : Form) (more : List Multiple) (k : ℕ) → d ≤ k → AreWithout k more → combined_at (bound_sum symbols round l f more) (place.Loop k) ≡ pos 0
  bound_without f more k m h =
      without_sum k (bound_sum symbols round l f more)
      (without_both k (with_counters round (affine_of d f)) more
      (without_both k (loops.variable_values_from 0 (affine_of d f) round) (times (pos 1) (without_loops (affine_of d f)) ∷ []) (values_without d k m 0 (affine_of d f) round over) (no_loop k, tt)) h)

  pub first_tidy : IsTidy d n r.first
  first_tidy = combination_tidy d n (bound_sum symbols round l made.first_form []) r.first (λ k m. bound_without made.first_form [] k m tt) made.first

  pub below_tidy : IsTidy d n r.below
  below_tidy =
      combination_tidy d n (times (pos 1) r.first ∷ times (neg_ℤ l.step) (number_form (pos 1)) ∷ []) r.below
      (λ k m. without_sum k (times (pos 1) r.first ∷ times (neg_ℤ l.step) (number_form (pos 1)) ∷ []) (first_tidy.none_behind k m, (no_loop k, tt))) made.below

  pub value_over : (k : ℕ) → suc d ≤ k → get_or r.value.loops k (pos 0) ≡ pos 0
  value_over = (combination_tidy (suc d) n (times (pos 1) r.below ∷ times l.step (loop_form d) ∷ []) r.value
      (λ k m. without_sum k (times (pos 1) r.below ∷ times l.step (loop_form d) ∷ []) (below_tidy.none_behind k (omega (arith, m)), (other_loops d k m, tt))) made.value).none_behind

  span_tidy : IsTidy d n made.span
  span_tidy =
      combination_tidy d n (bound_sum symbols round l made.last_form (times (negsuc 0) r.below ∷ [])) made.span
      (λ k m. bound_without made.last_form (times (negsuc 0) r.below ∷ []) k m (below_tidy.none_behind k m, tt)) made.spanned

  top_tidy : IsTidy d n made.top
  top_tidy =
      combination_tidy d n (times (sign_of l.step) made.span ∷ []) made.top
      (λ k m. without_sum k (times (sign_of l.step) made.span ∷ []) (span_tidy.none_behind k m, tt)) made.turned

  pub trip_tidy : IsTidy d n r.trip.top
  trip_tidy = subst (λ (t : Trip). IsTidy d n t.top) made.trip (trip_of_tidy d n (nat_abs l.step) made.top top_tidy)

  trip_form_without : (k : ℕ) → d ≤ k → number_of_place (trip_form n r.trip) (place.Loop k) ≡ pos 0
  trip_form_without k m = by (is_undivided r.trip)
    where
      by : (b : Bool) → number_of_place (cond b r.trip.top (symbol_form n)) (place.Loop k) ≡ pos 0
      by true = trip_tidy.none_behind k m
      by false = no_loop k

  end_made : combination (suc n) (times (pos 1) r.first ∷ times l.step (trip_form n r.trip) ∷ []) ≡ Some r.end
  end_made = ap (λ m. combination m (times (pos 1) r.first ∷ times l.step (trip_form n r.trip) ∷ [])) (sym (add-one n)) ∙ made.end

  pub end_tidy : IsTidy d (suc n) r.end
  end_tidy =
      combination_tidy d (suc n) (times (pos 1) r.first ∷ times l.step (trip_form n r.trip) ∷ []) r.end
      (λ k m. without_sum k (times (pos 1) r.first ∷ times l.step (trip_form n r.trip) ∷ []) (first_tidy.none_behind k m, (trip_form_without k m, tt))) end_made

  pub value_number : (iterations values : ℕ → ℤ) → number_of_form n iterations values r.value ≡ number_of_form n iterations values r.below +ℤ l.step *ℤ iterations d
  value_number iterations values =
      plus_is n iterations values r.below (loop_form d) r.value l.step made.value
      ∙ ap (λ z. number_of_form n iterations values r.below +ℤ l.step *ℤ z) (loop_number n iterations values d made.deep)

  -- the last value, by what the divided trip is
  pub end_number : (iterations values : ℕ → ℤ) → number_of_form (suc n) iterations values r.end
      ≡ number_of_form (suc n) iterations values r.first +ℤ l.step *ℤ number_of_form (suc n) iterations values (trip_form n r.trip)
  end_number iterations values = plus_is (suc n) iterations values r.first (trip_form n r.trip) r.end l.step end_made
