-- The numbers of a loop from 1 by 1.
use mathlib.Core.Path.{ap₂}
use Rattle.std.proofs.Common.{◌≡◌, refl, sym, ap, ◌∙◌, subst, ℕ, zero, suc, ◌+◌, ◌<◌, ℤ, pos, negsuc, ◌+ℤ◌, ◌-ℤ◌, ◌*ℤ◌, neg_ℤ, Bool, true, false, cond, ◌&&◌, List, [], ◌∷◌, ◌++◌, length, get_or, Option, Some, None, arith}
use Rattle.std.specs.Prelude.{nat_abs, int_div, int_rem, unsigned_abs, nat_lt, ◌==◌, not}
use Rattle.std.specs.List.{list_all}
use Rattle.std.proofs.lemmas.Int.{ints, quot-rem, rem_below}
use Rattle.std.proofs.lemmas.Bool.Decides.{Decides-ltb, Decides-int_eq}
use Rattle.std.proofs.Math.IntN.{zero-*ℤ, *ℤ_comm}
use Rattle.linear_forms.specs.Linear.{Form, is_small, form_of, number_at}
use Rattle.linear_forms.proofs.Ring.{spread_left}
use Rattle.linear_forms.proofs.Sizes.{both}
use Rattle.nest.specs.Plain.{Loop}
use Rattle.nest.specs.declared.parts.Trip.{Trip}
use Rattle.subscripts.specs.declared.affine.Affine.{Affine}
use Rattle.last_values.specs.declared.normal_forms.combinations.Multiple.{Multiple}
use Rattle.last_values.specs.declared.normal_forms.loops.NormalLoop.{NormalLoop}
use Rattle.last_values.specs.declared.normal_forms.places.Place.TheVariants as place
use Rattle.last_values.specs.normal_forms.Steps.{◌>>=◌}
use Rattle.last_values.specs.normal_forms.Combinations.{coefficient_in, number_of_place, combination, number_form, times, zero_loops, no_symbols, seven}
use Rattle.last_values.specs.normal_forms.NormalLoops as loops
use Rattle.last_values.specs.normal_forms.NormalLoops.{bound_form, one_at, loop_form, is_zero, is_unused, has_no_loops, has_no_symbols, is_constant, trip_of, trip_form, is_suitable, plus_number, plus_multiple, sign_of, trip_by, with_forms, forms_by_trip, forms_by_first, forms_of, normal_loop}
use Rattle.last_values.specs.normal_forms.Numbers.{products, number_of_form, sum_of_numbers, values_from, variable_numbers, trip_number, LoopNumbers, NormalLoopHasNumbers}
use Rattle.last_values.proofs.NormalForms.Numbers.{products-alike, products-zero, none_among_zeros, combination_has_number}
use Rattle.last_values.proofs.NormalForms.BoundNumbers.{bound_has_number}

-- ---- simple forms

zero_at : (k : ℕ) → number_of_place (number_form (pos 0)) (place.Loop k) ≡ pos 0
zero_at zero = refl
zero_at (suc zero) = refl
zero_at (suc (suc zero)) = refl
zero_at (suc (suc (suc zero))) = refl
zero_at (suc (suc (suc (suc zero)))) = refl
zero_at (suc (suc (suc (suc (suc zero))))) = refl
zero_at (suc (suc (suc (suc (suc (suc zero)))))) = refl
zero_at (suc (suc (suc (suc (suc (suc (suc k))))))) = refl

no_symbol : (j : ℕ) → coefficient_in no_symbols j ≡ pos 0
no_symbol j = none_among_zeros 8 j

module _ (n : ℕ) (iterations values : ℕ → ℤ) where
  abbrev Number : Affine → ℤ
  Number = number_of_form n iterations values

  number-number : (z : ℤ) → Number (number_form z) ≡ z
  number-number z =
      ap₂ (λ p q. p +ℤ (q +ℤ z)) (products-alike 7 0 (λ k. number_of_place (number_form z) (place.Loop k)) (λ k. pos 0) iterations (λ k h. zero_at k) ∙ products-zero 7 0 iterations)
      (products-alike n 0 (λ j. coefficient_in no_symbols j) (λ j. pos 0) values (λ j h. no_symbol j) ∙ products-zero n 0 values)
      ∙ zeros z
    where
      zeros : (z : ℤ) → pos 0 +ℤ (pos 0 +ℤ z) ≡ z
      zeros z = omega (arith, ints)

  -- 1 for one loop
  one : (k : ℕ) → k < 7 → products 7 0 (λ j. number_of_place (loop_form k) (place.Loop j)) iterations ≡ iterations k
  one zero h = omega (arith, ints)
  one (suc zero) h = omega (arith, ints)
  one (suc (suc zero)) h = omega (arith, ints)
  one (suc (suc (suc zero))) h = omega (arith, ints)
  one (suc (suc (suc (suc zero)))) h = omega (arith, ints)
  one (suc (suc (suc (suc (suc zero))))) h = omega (arith, ints)
  one (suc (suc (suc (suc (suc (suc zero)))))) h = omega (arith, ints)
  one (suc (suc (suc (suc (suc (suc (suc k))))))) h = absurd (omega (arith, h))

  number-loop : (k : ℕ) → k < 7 → Number (loop_form k) ≡ iterations k
  number-loop k h =
      ap₂ (λ p q. p +ℤ (q +ℤ pos 0)) (one k h) (products-alike n 0 (λ j. coefficient_in no_symbols j) (λ j. pos 0) values (λ j m. no_symbol j) ∙ products-zero n 0 values)
      ∙ zeros (iterations k)
    where
      zeros : (z : ℤ) → z +ℤ (pos 0 +ℤ pos 0) ≡ z
      zeros z = omega (arith, ints)

  number-plus : (a b c : Affine) (z : ℤ) → plus_multiple n a z b ≡ Some c → Number c ≡ Number a +ℤ z *ℤ Number b
  number-plus a b c z h = combination_has_number n (times (pos 1) a ∷ times z b ∷ []) c iterations values h ∙ simple (Number a) (z *ℤ Number b)
    where
      simple : (p q : ℤ) → pos 1 *ℤ p +ℤ (q +ℤ pos 0) ≡ p +ℤ q
      simple p q = omega (arith, ints)

-- ---- trips

loops_zero : (zs : List ℤ) (k : ℕ) → list_all is_zero zs ≡ true → get_or zs k (pos 0) ≡ pos 0
loops_zero [] k h = refl
loops_zero (z ∷ zs) zero h = (Decides-int_eq z (pos 0)).0 (both (is_zero z) (list_all is_zero zs) h).0
loops_zero (z ∷ zs) (suc k) h = loops_zero zs k (both (is_zero z) (list_all is_zero zs) h).1

symbols_zero : (ts : List (ℕ × ℤ)) (j : ℕ) → list_all is_unused ts ≡ true → coefficient_in ts j ≡ pos 0
symbols_zero [] j h = refl
symbols_zero (t ∷ ts) j h = by (t.0 == j) ((Decides-int_eq t.1 (pos 0)).0 (both (is_unused t) (list_all is_unused ts) h).0) (symbols_zero ts j (both (is_unused t) (list_all is_unused ts) h).1)
  where
    by : (b : Bool) → t.1 ≡ pos 0 → coefficient_in ts j ≡ pos 0 → cond b t.1 (coefficient_in ts j) ≡ pos 0
    by true e g = e
    by false e g = g

small_is_zero : (z : ℤ) → unsigned_abs z < 1 → z ≡ pos 0
small_is_zero (pos zero) h = refl
small_is_zero (pos (suc n)) h = absurd (omega (arith, ints, h))
small_is_zero (negsuc n) h = absurd (omega (arith, ints, h))

by_one : (z : ℤ) → int_div z (pos 1) ≡ z
by_one z =
    let whole = quot-rem z (pos 1) in
    let none = small_is_zero (int_rem z (pos 1)) (rem_below z (pos 1) (omega arith)) in
    alone (int_div z (pos 1)) (int_rem z (pos 1)) z whole none
  where
    alone : (q r z : ℤ) → q *ℤ pos 1 +ℤ r ≡ z → r ≡ pos 0 → q ≡ z
    alone q r z h e = omega (arith, ints, h, e)

module _ (n : ℕ) (iterations values : ℕ → ℤ) where
  constant-number : (a : Affine) → is_constant a ≡ true → number_of_form n iterations values a ≡ a.constant
  constant-number a h =
      let p = both (has_no_loops a) (has_no_symbols a) h in
      ap₂ (λ x y. x +ℤ (y +ℤ a.constant)) (products-alike 7 0 (λ k. number_of_place a (place.Loop k)) (λ k. pos 0) iterations (λ k m. loops_zero a.loops k p.0) ∙ products-zero 7 0 iterations)
      (products-alike n 0 (λ j. number_of_place a (place.Symbol j)) (λ j. pos 0) values (λ j m. symbols_zero a.syms j p.1) ∙ products-zero n 0 values)
      ∙ zeros a.constant
    where
      zeros : (z : ℤ) → pos 0 +ℤ (pos 0 +ℤ z) ≡ z
      zeros z = omega (arith, ints)

  folded : (a : Affine) (d : ℤ) → trip_number n iterations values (trip_of a d) ≡ int_div (number_of_form n iterations values a) d
  folded a d = by (is_constant a) refl
    where
      by : (b : Bool) → is_constant a ≡ b → trip_number n iterations values (cond b (record { top = number_form (int_div a.constant d); by = pos 1 }) (record { top = a; by = d })) ≡ int_div (number_of_form n iterations values a) d
      by true e = by_one (number_of_form n iterations values (number_form (int_div a.constant d))) ∙ (number-number n iterations values (int_div a.constant d) ∙ ap (λ z. int_div z d) (sym (constant-number a e)))
      by false e = refl

-- ---- steps that have a result

record Step {A B : Type 0} (o : Option A) (f : A → Option B) (y : B) : Type 0 where
  result : A
  is : o ≡ Some result
  then : f result ≡ Some y

step : {A B : Type 0} (o : Option A) (f : A → Option B) (y : B) → (o >>= f) ≡ Some y → Step o f y
step None f y h = cc
step (Some x) f y h = record { result = x; is = refl; then = h }

-- ---- the steps by which a loop gets its forms

module _ (symbols : List (List ℕ)) (round : List NormalLoop) (l : Loop) where
  abbrev n : ℕ
  n = length symbols

  abbrev after_end : Affine → Affine → Affine → Trip → Affine → Option NormalLoop
  after_end first below value trip end = Some (with_forms l first below value trip end)

  abbrev after_trip : Affine → Affine → Affine → Trip → Option NormalLoop
  after_trip first below value trip = plus_multiple (n + 1) first l.step (trip_form n trip) >>= after_end first below value trip

  abbrev after_top : Affine → Affine → Affine → Affine → Option NormalLoop
  after_top first below value top = trip_by n l.step top >>= after_trip first below value

  abbrev after_value : Affine → Affine → Affine → Option NormalLoop
  after_value first below value = bound_form symbols round l.last (times (negsuc 0) below ∷ []) >>= after_top first below value

  abbrev after_below : Affine → Affine → Option NormalLoop
  after_below first below = plus_multiple n below l.step (loop_form (length round)) >>= after_value first below

  abbrev after_first : Affine → Option NormalLoop
  after_first first = plus_number n first (neg_ℤ l.step) >>= after_below first

  abbrev from_first : Option NormalLoop
  from_first = bound_form symbols round l.first [] >>= after_first

  module _ (iterations values : ℕ → ℤ) (f g : Form) (ef : form_of (loops.variables_of round) symbols l.first ≡ Some f) (eg : form_of (loops.variables_of round) symbols l.last ≡ Some g)
      (deep : length round < 7) (r : NormalLoop) where
    abbrev xs : List ℤ
    xs = variable_numbers n iterations values round ++ values_from n 0 values

    abbrev m1 : ℤ
    m1 = number_at f xs

    abbrev m2 : ℤ
    m2 = number_at g xs

    abbrev N : Affine → ℤ
    N = number_of_form n iterations values

    same_loop : (s t : NormalLoop) → ◌≡◌ {A = Option NormalLoop} (Some s) (Some t) → s ≡ t
    same_loop s t h = cc

    alone : (m p : ℤ) → p ≡ m +ℤ pos 0 → p ≡ m
    alone m p h = omega (arith, ints, h)

    value_number : (m1 m3 p q first below value : ℤ) → first ≡ m1 → below ≡ first +ℤ neg_ℤ m3 *ℤ pos 1 → value ≡ below +ℤ p → q ≡ p +ℤ m3 *ℤ negsuc 0 → value ≡ m1 +ℤ q
    value_number m1 m3 p q first below value e b v s = omega (arith, ints, e, b, v, s)

    top_number : (m1 m2 m3 first below top : ℤ) → first ≡ m1 → below ≡ first +ℤ neg_ℤ m3 *ℤ pos 1 → top ≡ m2 +ℤ (negsuc 0 *ℤ below +ℤ pos 0) → top ≡ (m2 -ℤ m1) +ℤ m3
    top_number m1 m2 m3 first below top e b t = omega (arith, ints, e, b, t)

    numbers : from_first ≡ Some r → LoopNumbers n (length round) iterations values r m1 m2 l.step
    numbers h =
        let s1 = step (bound_form symbols round l.first []) after_first r h in
        let s2 = step (plus_number n s1.result (neg_ℤ l.step)) (after_below s1.result) r s1.then in
        let s3 = step (plus_multiple n s2.result l.step (loop_form (length round))) (after_value s1.result s2.result) r s2.then in
        let s4 = step (bound_form symbols round l.last (times (negsuc 0) s2.result ∷ [])) (after_top s1.result s2.result s3.result) r s3.then in
        let s5 = step (trip_by n l.step s4.result) (after_trip s1.result s2.result s3.result) r s4.then in
        let s6 = step (plus_multiple (n + 1) s1.result l.step (trip_form n s5.result)) (after_end s1.result s2.result s3.result s5.result) r s5.then in
        let s7 = step (combination n (times (sign_of l.step) s4.result ∷ [])) (λ top. Some (trip_of top (pos (nat_abs l.step)))) s5.result s5.is in
        let is : NormalLoop = with_forms l s1.result s2.result s3.result s5.result s6.result in
        let same : is ≡ r = same_loop is r s6.then in
        let same_trip : trip_of s7.result (pos (nat_abs l.step)) ≡ s5.result = (let e = s7.then in cc) in
        let first : N s1.result ≡ m1 = alone m1 (N s1.result) (bound_has_number symbols round l.first [] f s1.result iterations values ef s1.is) in
        let below : N s2.result ≡ N s1.result +ℤ neg_ℤ l.step *ℤ pos 1
        = number-plus n iterations values s1.result (number_form (pos 1)) s2.result (neg_ℤ l.step) s2.is ∙ ap (λ z. N s1.result +ℤ neg_ℤ l.step *ℤ z) (number-number n iterations values (pos 1)) in
        let value : N s3.result ≡ N s2.result +ℤ l.step *ℤ iterations (length round)
        = number-plus n iterations values s2.result (loop_form (length round)) s3.result l.step s3.is ∙ ap (λ z. N s2.result +ℤ l.step *ℤ z) (number-loop n iterations values (length round) deep) in
        let top = bound_has_number symbols round l.last (times (negsuc 0) s2.result ∷ []) g s4.result iterations values eg s4.is in
        let less : l.step *ℤ (iterations (length round) -ℤ pos 1) ≡ l.step *ℤ iterations (length round) +ℤ l.step *ℤ negsuc 0 = spread_left l.step (iterations (length round)) (negsuc 0) in
        let turned : N s7.result ≡ sign_of l.step *ℤ ((m2 -ℤ m1) +ℤ l.step)
        = alone (sign_of l.step *ℤ N s4.result) (N s7.result) (combination_has_number n (times (sign_of l.step) s4.result ∷ []) s7.result iterations values s7.is)
        ∙ ap (λ z. sign_of l.step *ℤ z) (top_number m1 m2 l.step (N s1.result) (N s2.result) (N s4.result) first below top) in
        record {
          first = ap (λ (q : NormalLoop). N q.first) (sym same) ∙ first;
          value = ap (λ (q : NormalLoop). N q.value) (sym same) ∙ value_number m1 l.step (l.step *ℤ iterations (length round)) (l.step *ℤ (iterations (length round) -ℤ pos 1)) (N s1.result) (N s2.result) (N s3.result) first below value less;
          trip = ap (λ (q : NormalLoop). trip_number n iterations values q.trip) (sym same) ∙ (ap (trip_number n iterations values) (sym same_trip)
              ∙ (folded n iterations values s7.result (pos (nat_abs l.step)) ∙ ap (λ z. int_div z (pos (nat_abs l.step))) turned));
        }

pub normal_loop_has_numbers : NormalLoopHasNumbers
unfolding normal_loop forms_of forms_by_first forms_by_trip
normal_loop_has_numbers symbols round l r f g iterations values h ef eg = by (is_suitable l.step round) refl h
  where
    by : (b : Bool) → is_suitable l.step round ≡ b → cond b (from_first symbols round l) None ≡ Some r
        → LoopNumbers (length symbols) (length round) iterations values r (number_at f (variable_numbers (length symbols) iterations values round ++ values_from (length symbols) 0 values)) (number_at g (variable_numbers (length symbols) iterations values round ++ values_from (length symbols) 0 values)) l.step
    by true e k =
        let p = both (not (is_zero l.step)) (is_small l.step && nat_lt (length round) 7) e in
        let q = both (is_small l.step) (nat_lt (length round) 7) p.1 in
        numbers symbols round l iterations values f g ef eg ((Decides-ltb (length round) 7).0 q.1) r k
    by false e k = cc
