-- A loop from 1 by 1 under no other has its forms behind all loops.
use mathlib.Core.Path.{ap₂}
use Rattle.std.proofs.Common.{◌≡◌, refl, ap, ◌∙◌, subst, ℕ, ◌+◌, ◌≤◌, ◌<◌, ℤ, pos, negsuc, neg_ℤ, ◌+ℤ◌, ◌*ℤ◌, Bool, true, false, cond, not, ◌&&◌, List, [], ◌∷◌, ◌++◌, length, replicate, Option, Some, None, arith}
use Rattle.std.specs.Prelude.{nat_abs, int_div, nat_lt, ◌==◌}
use Rattle.std.specs.Ordering.{int_eq}
use Rattle.std.proofs.lemmas.Bool.{eqb-true}
use Rattle.tree.specs.Plain.{Expression}
use Rattle.subscripts.specs.declared.affine.Affine.{Affine}
use Rattle.linear_forms.specs.Linear.{Form, is_small, form_of}
use Rattle.linear_forms.proofs.Sizes.{both}
use Rattle.nest.specs.Plain.{Loop}
use Rattle.nest.specs.declared.parts.Trip.{Trip}
use Rattle.std.proofs.Math.IntN.{*ℤ-zero}
use Rattle.last_values.specs.declared.normal_forms.combinations.Multiple.{Multiple}
use Rattle.last_values.specs.declared.normal_forms.loops.NormalLoop.{NormalLoop}
use Rattle.last_values.specs.declared.normal_forms.places.Place.TheVariants as place
use Rattle.last_values.specs.normal_forms.Steps.{◌>>=◌}
use Rattle.last_values.specs.normal_forms.Combinations.{coefficient_in, number_of_place, combination, affine_of, number_form, times}
use Rattle.last_values.specs.normal_forms.NormalLoops.{variables_of, with_counters, bound_form, loop_form, symbol_form, is_zero, is_constant, trip_of, trip_form, is_suitable, plus_number, plus_multiple, sign_of, trip_by, with_forms, forms_by_trip, forms_by_first, forms_of, normal_loop}
use Rattle.last_values.proofs.NormalForms.Numbers.{none_among_zeros}
use Rattle.pass_laws.proofs.ReadyNests.LoopForms.{step, bound_zeros, number_at, after_first, after_below, after_value, after_top, after_trip, after_end, from_first}
use Rattle.pass_laws.proofs.ReadyNests.Sums.{Zero, sum_has_zeros, sum_small, small_quotient}
use Rattle.pass_laws.proofs.NormalNests.Combined.{sum_past}
use Rattle.pass_laws.proofs.NormalNests.LastForms.{IsPlain, HasForms, sum_plain, number_plain, sum_with_more, trip_again, forms_alone}

-- a bound under no loop is a sum
record IsCombined (n : ℕ) (a : Affine) : Type 0 where
  terms : List Multiple
  is : combination n terms ≡ Some a

bound_combined : (symbols : List (List ℕ)) (e : Expression) (more : List Multiple) (a : Affine) → bound_form symbols [] e more ≡ Some a → IsCombined (length symbols) a
unfolding bound_form
bound_combined symbols e more a h = by (form_of (variables_of []) symbols e) h
  where
    by : (o : Option Form) → (o >>= λ f. combination (length symbols) (with_counters [] (affine_of 0 f) ++ more)) ≡ Some a → IsCombined (length symbols) a
    by None k = let no : ⊥ = cc in absurd no
    by (Some f) k = record { terms = with_counters [] (affine_of 0 f) ++ more; is = k }

pub record BoundsHaveForms (symbols : List (List ℕ)) (l : Loop) : Type 0 where
  pub first_form : Form
  pub first_is : form_of [] symbols l.first ≡ Some first_form
  pub last_form : Form
  pub last_is : form_of [] symbols l.last ≡ Some last_form

record HasForm (symbols : List (List ℕ)) (e : Expression) : Type 0 where
  form : Form
  is : form_of [] symbols e ≡ Some form

bound_has_form : (symbols : List (List ℕ)) (e : Expression) (more : List Multiple) (a : Affine) → bound_form symbols [] e more ≡ Some a → HasForm symbols e
unfolding bound_form
bound_has_form symbols e more a h = by (form_of [] symbols e) refl h
  where
    by : (o : Option Form) → form_of [] symbols e ≡ o → (o >>= λ f. combination (length symbols) (with_counters [] (affine_of 0 f) ++ more)) ≡ Some a → HasForm symbols e
    by None e k = let no : ⊥ = cc in absurd no
    by (Some f) e k = record { form = f; is = e }

symbol_past : (n j : ℕ) → n < j → number_of_place (symbol_form n) (place.Symbol j) ≡ pos 0
symbol_past n j l = by (n == j) refl
  where
    by : (b : Bool) → (n == j) ≡ b → cond b (pos 1) (coefficient_in (replicate 7 (0, pos 0)) j) ≡ pos 0
    by true e = let s = eqb-true n j e in absurd (omega (arith, l, s))
    by false e = none_among_zeros 7 j

-- a trip has no further symbols than its own place
trip_past : (n : ℕ) (a : Affine) (d : ℤ) → ((j : ℕ) → n ≤ j → number_of_place a (place.Symbol j) ≡ pos 0) → (j : ℕ) → n + 1 ≤ j → number_of_place (trip_form n (trip_of a d)) (place.Symbol j) ≡ pos 0
trip_past n a d none j l = by (is_constant a)
  where
    inner : (b : Bool) → number_of_place (cond b a (symbol_form n)) (place.Symbol j) ≡ pos 0
    inner true = none j (omega (arith, l))
    inner false = symbol_past n j (omega (arith, l))

    by : (b : Bool) → number_of_place (trip_form n (cond b (record { top = number_form (int_div a.constant d); by = pos 1 }) (record { top = a; by = d }))) (place.Symbol j) ≡ pos 0
    by true = none_among_zeros 8 j
    by false = inner (int_eq d (pos 1))

top_plain : (n : ℕ) (ts : List Multiple) (a : Affine) (m : ℕ) → combination n ts ≡ Some a → Zero 0 a → IsPlain n (trip_of a (pos m)).top
top_plain n ts a m h zeros = by (is_constant a)
  where
    by : (b : Bool) → IsPlain n (cond {A = Trip} b (record { top = number_form (int_div a.constant (pos m)); by = pos 1 }) (record { top = a; by = pos m })).top
    by true = number_plain n (int_div a.constant (pos m)) (small_quotient a.constant m (sum_small n ts a h))
    by false = sum_plain n ts a h zeros

module _ (symbols : List (List ℕ)) (l : Loop) (r : NormalLoop) where
  abbrev n : ℕ
  n = length symbols

  same_loop : (s t : NormalLoop) → ◌≡◌ {A = Option NormalLoop} (Some s) (Some t) → s ≡ t
  same_loop s t h = cc

  same_trip : (s t : Trip) → ◌≡◌ {A = Option Trip} (Some s) (Some t) → s ≡ t
  same_trip s t h = cc

  nothing : (x y z : ℤ) → x ≡ pos 0 → y ≡ pos 0 → pos 1 *ℤ x +ℤ (z *ℤ y +ℤ pos 0) ≡ pos 0
  nothing x y z e f = ap₂ (λ u v. pos 1 *ℤ u +ℤ (z *ℤ v +ℤ pos 0)) e f ∙ ap (λ w. pos 1 *ℤ pos 0 +ℤ (w +ℤ pos 0)) (*ℤ-zero z)

  forms_from : from_first symbols [] l ≡ Some r → is_small l.step ≡ true → HasForms (length symbols) r
  forms_from h small =
      let s1 = step (bound_form symbols [] l.first []) (after_first symbols [] l) r h in
      let s2 = step (plus_number n s1.result (neg_ℤ l.step)) (after_below symbols [] l s1.result) r s1.then in
      let s3 = step (plus_multiple n s2.result l.step (loop_form 0)) (after_value symbols [] l s1.result s2.result) r s2.then in
      let s4 = step (bound_form symbols [] l.last (times (negsuc 0) s2.result ∷ [])) (after_top symbols [] l s1.result s2.result s3.result) r s3.then in
      let s5 = step (trip_by n l.step s4.result) (after_trip symbols [] l s1.result s2.result s3.result) r s4.then in
      let s6 = step (plus_multiple (n + 1) s1.result l.step (trip_form n s5.result)) (after_end symbols [] l s1.result s2.result s3.result s5.result) r s5.then in
      let s7 = step (combination n (times (sign_of l.step) s4.result ∷ [])) (λ top. Some (trip_of top (pos (nat_abs l.step)))) s5.result s5.is in
      let is : NormalLoop = with_forms l s1.result s2.result s3.result s5.result s6.result in
      let same : is ≡ r = same_loop is r s6.then in
      let trip : trip_of s7.result (pos (nat_abs l.step)) ≡ s5.result = same_trip (trip_of s7.result (pos (nat_abs l.step))) s5.result s7.then in
      let c1 = bound_combined symbols l.first [] s1.result s1.is in
      let z1 : Zero 0 s1.result = bound_zeros symbols [] l.first [] 0 s1.result s1.is tt tt in
      let z2 : Zero 0 s2.result = sum_has_zeros n 0 (times (pos 1) s1.result ∷ times (neg_ℤ l.step) (number_form (pos 1)) ∷ []) s2.result s2.is (z1, (λ k a b. number_at (pos 1) k, tt)) in
      let z4 : Zero 0 s4.result = bound_zeros symbols [] l.last (times (negsuc 0) s2.result ∷ []) 0 s4.result s4.is tt (z2, tt) in
      let z7 : Zero 0 s7.result = sum_has_zeros n 0 (times (sign_of l.step) s4.result ∷ []) s7.result s7.is (z4, tt) in
      let top = top_plain n (times (sign_of l.step) s4.result ∷ []) s7.result (nat_abs l.step) s7.is z7 in
      let past : (j : ℕ) → n + 1 ≤ j → number_of_place (trip_form n s5.result) (place.Symbol j) ≡ pos 0
      = subst (λ (t : Trip). (j : ℕ) → n + 1 ≤ j → number_of_place (trip_form n t) (place.Symbol j) ≡ pos 0) trip
      (trip_past n s7.result (pos (nat_abs l.step)) (sum_past n (times (sign_of l.step) s4.result ∷ []) s7.result s7.is)) in
      let end = sum_with_more (n + 1) (n + 7) (times (pos 1) s1.result ∷ times l.step (trip_form n s5.result) ∷ []) s6.result s6.is (omega arith) (ap (λ b. b && true) small)
      (λ j m. nothing (number_of_place s1.result (place.Symbol j)) (number_of_place (trip_form n s5.result) (place.Symbol j)) l.step (sum_past n c1.terms s1.result c1.is j (omega (arith, m))) (past j m)) in
      subst (HasForms (length symbols)) same
      (forms_alone n is (sum_plain n c1.terms s1.result c1.is z1) (subst (λ (t : Trip). IsPlain n t.top) trip top)
      (subst (λ (t : Trip). trip_of t.top t.by ≡ t) trip (trip_again s7.result (pos (nat_abs l.step)))) end)

module _ (symbols : List (List ℕ)) (l : Loop) (r : NormalLoop) where
  bounds_from : from_first symbols [] l ≡ Some r → BoundsHaveForms symbols l
  bounds_from h =
      let s1 = step (bound_form symbols [] l.first []) (after_first symbols [] l) r h in
      let s2 = step (plus_number (length symbols) s1.result (neg_ℤ l.step)) (after_below symbols [] l s1.result) r s1.then in
      let s3 = step (plus_multiple (length symbols) s2.result l.step (loop_form 0)) (after_value symbols [] l s1.result s2.result) r s2.then in
      let s4 = step (bound_form symbols [] l.last (times (negsuc 0) s2.result ∷ [])) (after_top symbols [] l s1.result s2.result s3.result) r s3.then in
      let first = bound_has_form symbols l.first [] s1.result s1.is in
      let last = bound_has_form symbols l.last (times (negsuc 0) s2.result ∷ []) s4.result s4.is in
      record { first_form = first.form; first_is = first.is; last_form = last.form; last_is = last.is }

pub bounds_alone : (symbols : List (List ℕ)) (l : Loop) (r : NormalLoop) → normal_loop symbols [] l ≡ Some r → BoundsHaveForms symbols l
unfolding normal_loop forms_of forms_by_first forms_by_trip
bounds_alone symbols l r h = by (is_suitable l.step []) h
  where
    by : (b : Bool) → cond b (from_first symbols [] l) None ≡ Some r → BoundsHaveForms symbols l
    by true k = bounds_from symbols l r k
    by false k = let no : ⊥ = cc in absurd no

pub forms_of_alone : (symbols : List (List ℕ)) (l : Loop) (r : NormalLoop) → normal_loop symbols [] l ≡ Some r → HasForms (length symbols) r
unfolding normal_loop forms_of forms_by_first forms_by_trip
forms_of_alone symbols l r h = by (is_suitable l.step []) refl h
  where
    by : (b : Bool) → is_suitable l.step [] ≡ b → cond b (from_first symbols [] l) None ≡ Some r → HasForms (length symbols) r
    by true e k =
        let p = both (not (is_zero l.step)) (is_small l.step && nat_lt 0 7) e in
        let q = both (is_small l.step) (nat_lt 0 7) p.1 in
        forms_from symbols l r k q.0
    by false e k = let no : ⊥ = cc in absurd no
