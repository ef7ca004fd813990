-- The forms of a loop from 1 by 1, step by step.
use Rattle.std.proofs.Common.{◌≡◌, refl, subst, ℕ, ◌+◌, ◌<◌, pos, negsuc, neg_ℤ, Bool, true, false, cond, ◌&&◌, List}
use Rattle.std.proofs.Common.{[], ◌∷◌, ◌++◌, length, Option, Some, None}
use Rattle.std.specs.Prelude.{nat_abs, nat_lt, not}
use Rattle.std.proofs.lemmas.Bool.Decides.{Decides-ltb}
use Rattle.rewrite.proofs.Replacing.{not_true}
use Rattle.tree.specs.Plain.{Expression}
use Rattle.linear_forms.specs.Linear.{Form, is_small, form_of}
use Rattle.linear_forms.proofs.Sizes.{both}
use Rattle.nest.specs.Plain.{Loop}
use Rattle.nest.specs.declared.parts.Trip.{Trip}
use Rattle.subscripts.specs.declared.affine.Affine.{Affine}
use Rattle.last_values.specs.declared.normal_forms.combinations.Multiple.{Multiple}
use Rattle.last_values.specs.declared.normal_forms.loops.NormalLoop.{NormalLoop}
use Rattle.last_values.specs.normal_forms.Steps.{◌>>=◌}
use Rattle.last_values.specs.normal_forms.Combinations.{combination, affine_of, number_form, times}
use Rattle.last_values.specs.normal_forms.NormalLoops.{variables_of, with_counters, bound_form, loop_form, is_zero, trip_of}
use Rattle.last_values.specs.normal_forms.NormalLoops.{trip_form, is_suitable, plus_number, plus_multiple, sign_of, trip_by}
use Rattle.last_values.specs.normal_forms.NormalLoops.{with_forms, forms_by_trip, forms_by_first, forms_of, normal_loop}

record Step {A B : Type 0} (o : Option A) (f : A → Option B) (y : B) : Type 0 where
  result : A
  is : o ≡ Some result
  then : f result ≡ Some y

step : {A B : Type 0} (o : Option A) (f : A → Option B) (y : B) → (o >>= f) ≡ Some y → Step o f y
step None f y h = absurd cc
step (Some x) f y h = record { result = x; is = refl; then = h }

module _ (symbols : List (List ℕ)) (round : List NormalLoop) (l : Loop) where
  abbrev n : ℕ
  n = length symbols

  -- a bound over the counters of the loops round it
  abbrev pub bound_sum : Form → List Multiple → List Multiple
  bound_sum f more = with_counters round (affine_of (length round) f) ++ more

  pub record IsMade (r : NormalLoop) : Type 0 where
    pub deep : length round < 7
    pub step_small : is_small l.step ≡ true
    pub step_other : is_zero l.step ≡ false
    pub first_form : Form
    pub first_linear : form_of (variables_of round) symbols l.first ≡ Some first_form
    pub first : combination (length symbols) (bound_sum first_form []) ≡ Some r.first
    pub below : combination (length symbols) (times (pos 1) r.first ∷ times (neg_ℤ l.step) (number_form (pos 1)) ∷ []) ≡ Some r.below
    pub value : combination (length symbols) (times (pos 1) r.below ∷ times l.step (loop_form (length round)) ∷ []) ≡ Some r.value
    pub last_form : Form
    pub last_linear : form_of (variables_of round) symbols l.last ≡ Some last_form
    pub span : Affine
    pub spanned : combination (length symbols) (bound_sum last_form (times (negsuc 0) r.below ∷ [])) ≡ Some span
    pub top : Affine
    pub turned : combination (length symbols) (times (sign_of l.step) span ∷ []) ≡ Some top
    pub trip : trip_of top (pos (nat_abs l.step)) ≡ r.trip
    pub end : combination (length symbols + 1) (times (pos 1) r.first ∷ times l.step (trip_form (length symbols) r.trip) ∷ []) ≡ Some r.end
    pub step : r.step ≡ l.step

  abbrev after_end : Affine → Affine → Affine → Trip → Affine → Option NormalLoop
  after_end first below value trip end = Some (with_forms l first below value trip end)

  abbrev after_trip : Affine → Affine → Affine → Trip → Option NormalLoop
  after_trip first below value trip = plus_multiple (n + 1) first l.step (trip_form n trip) >>= after_end first below value trip

  abbrev after_top : Affine → Affine → Affine → Affine → Option NormalLoop
  after_top first below value top = trip_by n l.step top >>= after_trip first below value

  abbrev after_value : Affine → Affine → Affine → Option NormalLoop
  after_value first below value = bound_form symbols round l.last (times (negsuc 0) below ∷ []) >>= after_top first below value

  abbrev after_below : Affine → Affine → Option NormalLoop
  after_below first below = plus_multiple n below l.step (loop_form (length round)) >>= after_value first below

  abbrev after_first : Affine → Option NormalLoop
  after_first first = plus_number n first (neg_ℤ l.step) >>= after_below first

  abbrev from_first : Option NormalLoop
  from_first = bound_form symbols round l.first [] >>= after_first

  same_loop : (s t : NormalLoop) → ◌≡◌ {A = Option NormalLoop} (Some s) (Some t) → s ≡ t
  same_loop s t h = cc

  same_trip : (s t : Trip) → ◌≡◌ {A = Option Trip} (Some s) (Some t) → s ≡ t
  same_trip s t h = cc

  bound_parts : (e : Expression) (more : List Multiple) (a : Affine) → bound_form symbols round e more ≡ Some a
      → Step (form_of (variables_of round) symbols e) (λ f. combination n (bound_sum f more)) a
  unfolding bound_form
  bound_parts e more a h = step (form_of (variables_of round) symbols e) (λ f. combination n (bound_sum f more)) a h

  made : length round < 7 → is_small l.step ≡ true → is_zero l.step ≡ false → (r : NormalLoop) → from_first ≡ Some r → IsMade r
  made deep small other r h =
      let s1 = step (bound_form symbols round l.first []) after_first r h in
      let s2 = step (plus_number n s1.result (neg_ℤ l.step)) (after_below s1.result) r s1.then in
      let s3 = step (plus_multiple n s2.result l.step (loop_form (length round))) (after_value s1.result s2.result) r s2.then in
      let s4 = step (bound_form symbols round l.last (times (negsuc 0) s2.result ∷ [])) (after_top s1.result s2.result s3.result) r s3.then in
      let s5 = step (trip_by n l.step s4.result) (after_trip s1.result s2.result s3.result) r s4.then in
      let s6 = step (plus_multiple (n + 1) s1.result l.step (trip_form n s5.result)) (after_end s1.result s2.result s3.result s5.result) r s5.then in
      let s7 = step (combination n (times (sign_of l.step) s4.result ∷ [])) (λ top. Some (trip_of top (pos (nat_abs l.step)))) s5.result s5.is in
      let b1 = bound_parts l.first [] s1.result s1.is in
      let b4 = bound_parts l.last (times (negsuc 0) s2.result ∷ []) s4.result s4.is in
      let is : NormalLoop = with_forms l s1.result s2.result s3.result s5.result s6.result in
      subst IsMade {x = is} {y = r} (same_loop is r s6.then) (record {
        deep = deep;
        step_small = small;
        step_other = other;
        first_form = b1.result;
        first_linear = b1.is;
        first = b1.then;
        below = s2.is;
        value = s3.is;
        last_form = b4.result;
        last_linear = b4.is;
        span = s4.result;
        spanned = b4.then;
        top = s7.result;
        turned = s7.is;
        trip = same_trip (trip_of s7.result (pos (nat_abs l.step))) s5.result s7.then;
        end = s6.is;
        step = refl {a = l.step};
      })

  pub loop_made : (r : NormalLoop) → normal_loop symbols round l ≡ Some r → IsMade r
  unfolding normal_loop forms_of forms_by_first forms_by_trip
  loop_made r h = by (is_suitable l.step round) refl h
    where
      by : (b : Bool) → is_suitable l.step round ≡ b → cond b from_first None ≡ Some r → IsMade r
      by true e k =
          let p = both (not (is_zero l.step)) (is_small l.step && nat_lt (length round) 7) e in
          let q = both (is_small l.step) (nat_lt (length round) 7) p.1 in
          made ((Decides-ltb (length round) 7).0 q.1) q.0 (not_true (is_zero l.step) p.0) r k
      by false e k = absurd cc
