-- How many places the forms of a loop from 1 by 1 have.
use Rattle.std.proofs.Common.{◌≡◌, refl, sym, ap, subst, ℕ, suc, ◌+◌, ◌-◌, ◌≤◌, ℤ, pos, negsuc, neg_ℤ, Bool, true}
use Rattle.std.proofs.Common.{false, cond, List, [], ◌∷◌, ◌++◌, length, replicate, Option, Some, None, arith}
use Rattle.std.specs.Ordering.{int_eq}
use Rattle.std.specs.Prelude.{int_div, nat_abs}
use Rattle.std.proofs.lemmas.List.{length-append, length-replicate}
use Rattle.tree.specs.Plain.{Expression}
use Rattle.linear_forms.specs.Linear.{Form, form_of, not_zero}
use Rattle.linear_forms.specs.Places.{padded, terms_from}
use Rattle.nest.specs.Plain.{Loop}
use Rattle.nest.specs.declared.parts.Trip.{Trip}
use Rattle.last_values.specs.normal_forms.Combinations.{affine_of, combination, number_form, times}
use Rattle.last_values.specs.normal_forms.NormalLoops.{bound_form, forms_by_first, forms_by_trip, forms_of, is_constant}
use Rattle.last_values.specs.normal_forms.NormalLoops.{is_suitable, loop_form, normal_loop, plus_multiple, plus_number, sign_of}
use Rattle.last_values.specs.normal_forms.NormalLoops.{trip_by, trip_form, trip_of, variables_of, with_counters, with_forms}
use Rattle.last_values.specs.normal_forms.Steps.{◌>>=◌}
use Rattle.last_values.specs.declared.normal_forms.combinations.Multiple.{Multiple}
use Rattle.last_values.specs.declared.normal_forms.loops.NormalLoop.{NormalLoop}
use Rattle.pass_laws.proofs.ReadyNests.LoopForms.{after_below, after_end, after_first, after_top, after_trip, after_value}
use Rattle.pass_laws.proofs.ReadyNests.LoopForms.{from_first, step}
use Rattle.pass_laws.proofs.ReadyNests.Sums.{sum_of}
use Rattle.subscripts.specs.declared.affine.Affine.{Affine}

pub record IsSized (a : Affine) : Type 0 where
  pub loops : length a.loops ≤ 7
  pub symbols : length a.syms ≤ 8

pub record HasSizes (r : NormalLoop) : Type 0 where
  pub first : IsSized r.first
  pub below : IsSized r.below
  pub top : IsSized r.trip.top
  pub end : IsSized r.end

pub terms_counted : (o : ℕ) (cs : List ℤ) → length (terms_from o cs) ≡ not_zero cs
terms_counted o [] = refl
terms_counted o (c ∷ cs) = by (int_eq c (pos 0)) (terms_counted (suc o) cs)
  where
    by : (b : Bool) → length (terms_from (suc o) cs) ≡ not_zero cs → length (cond b (terms_from (suc o) cs) ((o, c) ∷ terms_from (suc o) cs)) ≡ cond b (not_zero cs) (suc (not_zero cs))
    by true more = more
    by false more = ap suc more

pub eight_places : (ts : List (ℕ × ℤ)) → length ts ≤ 8 → length (padded ts) ≤ 8
eight_places ts h =
    let e = length-append ts (replicate (8 - length ts) (0, pos 0)) in
    let f : length (replicate {A = ℕ × ℤ} (8 - length ts) (0, pos 0)) ≡ 8 - length ts = length-replicate (8 - length ts) (0, pos 0) in omega arith

pub sum_sized : (n : ℕ) (ts : List Multiple) (a : Affine) → combination n ts ≡ Some a → IsSized a
sum_sized n ts a h =
    let s = sum_of n ts a h in
    let len : length a.loops ≡ 7 = ap (λ (ls : List ℤ). length ls) s.loops in
    let count = terms_counted 0 s.symbols in
    let few = s.few in
    record {
      loops = omega (arith, len);
      symbols = subst (λ (ts : List (ℕ × ℤ)). length ts ≤ 8) (sym s.syms) (eight_places (terms_from 0 s.symbols) (omega (arith, count, few)));
    }

bound_sized : (symbols : List (List ℕ)) (round : List NormalLoop) (e : Expression) (more : List Multiple) (a : Affine) → bound_form symbols round e more ≡ Some a → IsSized a
unfolding bound_form
bound_sized symbols round e more a h = by (form_of (variables_of round) symbols e) h
  where
    by : (o : Option Form) → (o >>= λ f. combination (length symbols) (with_counters round (affine_of (length round) f) ++ more)) ≡ Some a → IsSized a
    by None g = let no : ⊥ = cc in absurd no
    by (Some f) g = sum_sized (length symbols) (with_counters round (affine_of (length round) f) ++ more) a g

pub trip_sized : (a : Affine) (by : ℤ) → IsSized a → IsSized (trip_of a by).top
trip_sized a by h = either (is_constant a)
  where
    either : (b : Bool) → IsSized (cond {A = Trip} b (record { top = number_form (int_div a.constant by); by = pos 1 }) (record { top = a; by = by })).top
    either true = record { loops = omega arith; symbols = omega arith }
    either false = h

module _ (symbols : List (List ℕ)) (round : List NormalLoop) (l : Loop) (r : NormalLoop) where
  abbrev n : ℕ
  n = length symbols

  same_loop : (s t : NormalLoop) → ◌≡◌ {A = Option NormalLoop} (Some s) (Some t) → s ≡ t
  same_loop s t h = cc

  same_trip : (s t : Trip) → ◌≡◌ {A = Option Trip} (Some s) (Some t) → s ≡ t
  same_trip s t h = cc

  sizes : from_first symbols round l ≡ Some r → HasSizes r
  sizes h =
      let s1 = step (bound_form symbols round l.first []) (after_first symbols round l) r h in
      let s2 = step (plus_number n s1.result (neg_ℤ l.step)) (after_below symbols round l s1.result) r s1.then in
      let s3 = step (plus_multiple n s2.result l.step (loop_form (length round))) (after_value symbols round l s1.result s2.result) r s2.then in
      let s4 = step (bound_form symbols round l.last (times (negsuc 0) s2.result ∷ [])) (after_top symbols round l s1.result s2.result s3.result) r s3.then in
      let s5 = step (trip_by n l.step s4.result) (after_trip symbols round l s1.result s2.result s3.result) r s4.then in
      let s6 = step (plus_multiple (n + 1) s1.result l.step (trip_form n s5.result)) (after_end symbols round l s1.result s2.result s3.result s5.result) r s5.then in
      let s7 = step (combination n (times (sign_of l.step) s4.result ∷ [])) (λ top. Some (trip_of top (pos (nat_abs l.step)))) s5.result s5.is in
      let is : NormalLoop = with_forms l s1.result s2.result s3.result s5.result s6.result in
      let same : is ≡ r = same_loop is r s6.then in
      let trip : trip_of s7.result (pos (nat_abs l.step)) ≡ s5.result = same_trip (trip_of s7.result (pos (nat_abs l.step))) s5.result s7.then in
      let top : IsSized s5.result.top =
      subst (λ (t : Trip). IsSized t.top) {x = trip_of s7.result (pos (nat_abs l.step))} {y = s5.result} trip (trip_sized s7.result (pos (nat_abs l.step)) (sum_sized n (times (sign_of l.step) s4.result ∷ []) s7.result s7.is)) in
      subst HasSizes {x = is} same (record {
        first = bound_sized symbols round l.first [] s1.result s1.is;
        below = sum_sized n (times (pos 1) s1.result ∷ times (neg_ℤ l.step) (number_form (pos 1)) ∷ []) s2.result s2.is;
        top = top;
        end = sum_sized (n + 1) (times (pos 1) s1.result ∷ times l.step (trip_form n s5.result) ∷ []) s6.result s6.is;
      })

  pub loop_sized : normal_loop symbols round l ≡ Some r → HasSizes r
  unfolding normal_loop forms_of forms_by_first forms_by_trip
  loop_sized h = by (is_suitable l.step round) h
    where
      by : (b : Bool) → cond b (from_first symbols round l) None ≡ Some r → HasSizes r
      by true k = sizes k
      by false k = let no : ⊥ = cc in absurd no
