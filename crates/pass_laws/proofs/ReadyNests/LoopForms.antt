-- The forms of a loop from 1 by 1.
use Rattle.std.proofs.Common.{◌≡◌, refl, ◌∙◌, subst, ℕ, zero, suc, ◌+◌, ◌≤◌, ◌<◌, ℤ, pos, negsuc, neg_ℤ, Bool, true, false, cond, ◌&&◌, not, List, [], ◌∷◌, ◌++◌, length, get_or, Option, Some, None, arith}
use Rattle.std.specs.Prelude.{nat_abs, int_div, nat_lt, ◌==◌}
use Rattle.std.proofs.lemmas.Bool.{eqb-true}
use Rattle.std.proofs.lemmas.Bool.Decides.{Decides-ltb}
use Rattle.std.proofs.lemmas.Int.{ints}
use Rattle.subscripts.specs.Shapes.{IsForm}
use Rattle.subscripts.specs.declared.affine.Affine.{Affine}
use Rattle.tree.specs.Plain.{Expression}
use Rattle.linear_forms.specs.Linear.{Form, is_small, form_of}
use Rattle.linear_forms.proofs.Sizes.{both}
use Rattle.nest.specs.Plain.{Loop}
use Rattle.nest.specs.declared.parts.Trip.{Trip}
use Rattle.components.specs.Lists.{Each}
use Rattle.components.proofs.ListLaws.{Each-append}
use Rattle.dependence_graph.specs.nest_graph.Ready.{IsTripIn}
use Rattle.last_values.specs.declared.normal_forms.combinations.Multiple.{Multiple}
use Rattle.last_values.specs.declared.normal_forms.loops.NormalLoop.{NormalLoop}
use Rattle.last_values.specs.declared.normal_forms.places.Place.TheVariants as place
use Rattle.last_values.specs.normal_forms.Steps.{◌>>=◌}
use Rattle.last_values.specs.normal_forms.Combinations.{number_of_place, combination, affine_of, number_form, without_loops, times, seven}
use Rattle.last_values.specs.normal_forms.NormalLoops.{counter_name, variables_of, variable_values_from, with_counters, bound_form, one_at, loop_form, is_zero, is_constant, trip_of, trip_form, is_suitable, plus_number, plus_multiple, sign_of, trip_by, with_forms, forms_by_trip, forms_by_first, forms_of, normal_loop}
use Rattle.pass_laws.proofs.ReadyNests.Sums.{Zero, sum_is_form, sum_small, number_is_form, small_quotient, sum_has_zeros}

-- the values of the variables have no loops from this place on
abbrev pub HaveZeros : ℕ → List NormalLoop → Type 0
HaveZeros d round = Each (λ (r : NormalLoop). Zero d r.value) round

pub Zero-later : (d e : ℕ) (a : Affine) → d ≤ e → Zero d a → Zero e a
Zero-later d e a h z k l m = z k (omega (arith, h, l)) m

pub HaveZeros-later : (d e : ℕ) (round : List NormalLoop) → d ≤ e → HaveZeros d round → HaveZeros e round
HaveZeros-later d e [] h z = tt
HaveZeros-later d e (r ∷ round) h z = (Zero-later d e r.value h z.0, HaveZeros-later d e round h z.1)

-- ---- simple forms

pub without_at : (a : Affine) (k : ℕ) → number_of_place (without_loops a) (place.Loop k) ≡ pos 0
without_at a zero = refl
without_at a (suc zero) = refl
without_at a (suc (suc zero)) = refl
without_at a (suc (suc (suc zero))) = refl
without_at a (suc (suc (suc (suc zero)))) = refl
without_at a (suc (suc (suc (suc (suc zero))))) = refl
without_at a (suc (suc (suc (suc (suc (suc zero)))))) = refl
without_at a (suc (suc (suc (suc (suc (suc (suc k))))))) = refl

pub number_at : (z : ℤ) (k : ℕ) → number_of_place (number_form z) (place.Loop k) ≡ pos 0
number_at z zero = refl
number_at z (suc zero) = refl
number_at z (suc (suc zero)) = refl
number_at z (suc (suc (suc zero))) = refl
number_at z (suc (suc (suc (suc zero)))) = refl
number_at z (suc (suc (suc (suc (suc zero))))) = refl
number_at z (suc (suc (suc (suc (suc (suc zero)))))) = refl
number_at z (suc (suc (suc (suc (suc (suc (suc k))))))) = refl

pub seven-at : (f : ℕ → ℤ) (k : ℕ) → k < 7 → get_or (seven f) k (pos 0) ≡ f k
seven-at f zero h = refl
seven-at f (suc zero) h = refl
seven-at f (suc (suc zero)) h = refl
seven-at f (suc (suc (suc zero))) h = refl
seven-at f (suc (suc (suc (suc zero)))) h = refl
seven-at f (suc (suc (suc (suc (suc zero))))) h = refl
seven-at f (suc (suc (suc (suc (suc (suc zero)))))) h = refl
seven-at f (suc (suc (suc (suc (suc (suc (suc k))))))) h = absurd (omega (arith, h))

other_loop : (d k : ℕ) → suc d ≤ k → one_at d k ≡ pos 0
other_loop d k h = by (k == d) refl
  where
    by : (b : Bool) → (k == d) ≡ b → cond b (pos 1) (pos 0) ≡ pos 0
    by true e = let same : k ≡ d = eqb-true k d e in absurd (omega (arith, h, same))
    by false e = refl

loop_zeros : (d : ℕ) → Zero (suc d) (loop_form d)
loop_zeros d k l m = seven-at (one_at d) k m ∙ other_loop d k l

-- ---- bounds

values_zeros : (d k : ℕ) (a : Affine) (round : List NormalLoop) → HaveZeros d round → Each (λ (t : Multiple). Zero d t.form) (variable_values_from k a round)
values_zeros d k a [] h = tt
values_zeros d k a (r ∷ rs) h = (h.0, values_zeros d (k + 1) a rs h.1)

pub bound_zeros : (symbols : List (List ℕ)) (round : List NormalLoop) (e : Expression) (more : List Multiple) (d : ℕ) (a : Affine) → bound_form symbols round e more ≡ Some a
    → HaveZeros d round → Each (λ (t : Multiple). Zero d t.form) more → Zero d a
unfolding bound_form
bound_zeros symbols round e more d a h z others = by (form_of (variables_of round) symbols e) h
  where
    by : (o : Option Form) → (o >>= λ f. combination (length symbols) (with_counters round (affine_of (length round) f) ++ more)) ≡ Some a → Zero d a
    by None g = let no : ⊥ = cc in absurd no
    by (Some f) g =
        let b = affine_of (length round) f in
        let vs = variable_values_from 0 b round in
        sum_has_zeros (length symbols) d ((vs ++ times (pos 1) (without_loops b) ∷ []) ++ more) a g
        (Each-append (λ (t : Multiple). Zero d t.form) (vs ++ times (pos 1) (without_loops b) ∷ []) more
        (Each-append (λ (t : Multiple). Zero d t.form) vs (times (pos 1) (without_loops b) ∷ []) (values_zeros d 0 b round z) (λ k l m. without_at b k, tt))
        others)

-- ---- steps that have a result

pub record Step {A B : Type 0} (o : Option A) (f : A → Option B) (y : B) : Type 0 where
  pub result : A
  pub is : o ≡ Some result
  pub then : f result ≡ Some y

pub step : {A B : Type 0} (o : Option A) (f : A → Option B) (y : B) → (o >>= f) ≡ Some y → Step o f y
step None f y h = cc
step (Some x) f y h = record { result = x; is = refl; then = h }

-- ---- trips

positive_abs : (z : ℤ) → not (is_zero z) ≡ true → 1 ≤ nat_abs z
positive_abs (pos zero) h = let no : ⊥ = cc in absurd no
positive_abs (pos (suc n)) h = omega (arith, ints)
positive_abs (negsuc n) h = omega (arith, ints)

trip_is_in : (d m : ℕ) (top : Affine) → 1 ≤ m → IsForm d top → is_small top.constant ≡ true → IsTripIn d (trip_of top (pos m))
trip_is_in d m top h f s = by (is_constant top)
  where
    by : (b : Bool) → IsTripIn d (cond b (record { top = number_form (int_div top.constant (pos m)); by = pos 1 }) (record { top = top; by = pos m }))
    by true = record { top = number_is_form d (int_div top.constant (pos m)) (small_quotient top.constant m s); positive = omega (arith, ints) }
    by false = record { top = f; positive = omega (arith, ints, h) }

-- ---- a loop under these loops

pub record IsNormalLoop (depth : ℕ) (l : Loop) (r : NormalLoop) : Type 0 where
  pub deep : depth < 7
  pub variable : r.variable ≡ l.variable
  pub counter : r.counter ≡ counter_name l.number
  pub value : Zero (suc depth) r.value
  pub trip : IsTripIn depth r.trip

module _ (symbols : List (List ℕ)) (round : List NormalLoop) (l : Loop) where
  abbrev n : ℕ
  n = length symbols

  abbrev pub after_end : Affine → Affine → Affine → Trip → Affine → Option NormalLoop
  after_end first below value trip end = Some (with_forms l first below value trip end)

  abbrev pub after_trip : Affine → Affine → Affine → Trip → Option NormalLoop
  after_trip first below value trip = plus_multiple (n + 1) first l.step (trip_form n trip) >>= after_end first below value trip

  abbrev pub after_top : Affine → Affine → Affine → Affine → Option NormalLoop
  after_top first below value top = trip_by n l.step top >>= after_trip first below value

  abbrev pub after_value : Affine → Affine → Affine → Option NormalLoop
  after_value first below value = bound_form symbols round l.last (times (negsuc 0) below ∷ []) >>= after_top first below value

  abbrev pub after_below : Affine → Affine → Option NormalLoop
  after_below first below = plus_multiple n below l.step (loop_form (length round)) >>= after_value first below

  abbrev pub after_first : Affine → Option NormalLoop
  after_first first = plus_number n first (neg_ℤ l.step) >>= after_below first

  abbrev pub from_first : Option NormalLoop
  from_first = bound_form symbols round l.first [] >>= after_first

  same_loop : (s t : NormalLoop) → ◌≡◌ {A = Option NormalLoop} (Some s) (Some t) → s ≡ t
  same_loop s t h = cc

  same_trip : (s t : Trip) → ◌≡◌ {A = Option Trip} (Some s) (Some t) → s ≡ t
  same_trip s t h = cc

  module _ (r : NormalLoop) (zeros : HaveZeros (length round) round) (deep : length round < 7) (suits : not (is_zero l.step) ≡ true) where
    abbrev d : ℕ
    d = length round

    forms : from_first ≡ Some r → IsNormalLoop (length round) l r
    forms h =
        let s1 = step (bound_form symbols round l.first []) after_first r h in
        let s2 = step (plus_number n s1.result (neg_ℤ l.step)) (after_below s1.result) r s1.then in
        let s3 = step (plus_multiple n s2.result l.step (loop_form (length round))) (after_value s1.result s2.result) r s2.then in
        let s4 = step (bound_form symbols round l.last (times (negsuc 0) s2.result ∷ [])) (after_top s1.result s2.result s3.result) r s3.then in
        let s5 = step (trip_by n l.step s4.result) (after_trip s1.result s2.result s3.result) r s4.then in
        let s6 = step (plus_multiple (n + 1) s1.result l.step (trip_form n s5.result)) (after_end s1.result s2.result s3.result s5.result) r s5.then in
        let s7 = step (combination n (times (sign_of l.step) s4.result ∷ [])) (λ top. Some (trip_of top (pos (nat_abs l.step)))) s5.result s5.is in
        let is : NormalLoop = with_forms l s1.result s2.result s3.result s5.result s6.result in
        let same : is ≡ r = same_loop is r s6.then in
        let trip : trip_of s7.result (pos (nat_abs l.step)) ≡ s5.result = same_trip (trip_of s7.result (pos (nat_abs l.step))) s5.result s7.then in
        let first : Zero d s1.result = bound_zeros symbols round l.first [] d s1.result s1.is zeros tt in
        let below : Zero d s2.result = sum_has_zeros n d (times (pos 1) s1.result ∷ times (neg_ℤ l.step) (number_form (pos 1)) ∷ []) s2.result s2.is (first, (λ k a b. number_at (pos 1) k, tt)) in
        let value : Zero (suc d) s3.result
        = sum_has_zeros n (suc d) (times (pos 1) s2.result ∷ times l.step (loop_form d) ∷ []) s3.result s3.is (Zero-later d (suc d) s2.result (omega arith) below, (loop_zeros d, tt)) in
        let top : Zero d s4.result = bound_zeros symbols round l.last (times (negsuc 0) s2.result ∷ []) d s4.result s4.is zeros (below, tt) in
        let turned : Zero d s7.result = sum_has_zeros n d (times (sign_of l.step) s4.result ∷ []) s7.result s7.is (top, tt) in
        let form = sum_is_form n d (times (sign_of l.step) s4.result ∷ []) s7.result s7.is (omega (arith, deep)) turned in
        let in_trip = trip_is_in d (nat_abs l.step) s7.result (positive_abs l.step suits) form (sum_small n (times (sign_of l.step) s4.result ∷ []) s7.result s7.is) in
        subst (IsNormalLoop (length round) l) same (record {
          deep = deep;
          variable = refl;
          counter = refl;
          value = value;
          trip = subst (IsTripIn (length round)) trip in_trip;
        })

pub normal_loop_is : (symbols : List (List ℕ)) (round : List NormalLoop) (l : Loop) (r : NormalLoop) → HaveZeros (length round) round → normal_loop symbols round l ≡ Some r → IsNormalLoop (length round) l r
unfolding normal_loop forms_of forms_by_first forms_by_trip
normal_loop_is symbols round l r z h = by (is_suitable l.step round) refl h
  where
    by : (b : Bool) → is_suitable l.step round ≡ b → cond b (from_first symbols round l) None ≡ Some r → IsNormalLoop (length round) l r
    by true e k =
        let p = both (not (is_zero l.step)) (is_small l.step && nat_lt (length round) 7) e in
        let q = both (is_small l.step) (nat_lt (length round) 7) p.1 in
        forms symbols round l r z ((Decides-ltb (length round) 7).0 q.1) p.0 k
    by false e k = let no : ⊥ = cc in absurd no
