-- The forms of a loop from 1 by 1 are within the limits, and the dividend of its trip is that of a linear form.
use Rattle.std.proofs.Common.{◌≡◌, refl, sym, ap, ◌∙◌, subst, ℕ, zero, suc, ◌+◌, ◌^◌, ◌≤◌, ℤ, pos, negsuc, neg_ℤ, Bool}
use Rattle.std.proofs.Common.{true, false, cond, ◌&&◌, not, List, [], ◌∷◌, ◌++◌, take, drop, length, get_or}
use Rattle.std.proofs.Common.{length-append, Option, Some, None, arith}
use Rattle.std.specs.Prelude.{nat_abs, nat_le, nat_lt, int_div}
use Rattle.std.proofs.lemmas.Bool.{le-leb, leb-true}
use Rattle.std.proofs.lemmas.Int.{ints}
use Rattle.std.proofs.lemmas.List.{length-take}
use Rattle.tree.specs.Plain.{Expression}
use Rattle.linear_forms.proofs.Sizes.{both}
use Rattle.linear_forms.specs.Linear.{Form, is_small, all_small, not_zero, is_limited, form_of}
use Rattle.linear_forms.specs.Places.{padded, terms_from}
use Rattle.linear_forms.specs.Affines.{IsAffineOf}
use Rattle.nest.specs.Plain.{Loop}
use Rattle.nest.specs.declared.parts.Trip.{Trip}
use Rattle.last_values.specs.normal_forms.Combinations.{combination, affine_of, number_form, times}
use Rattle.last_values.specs.normal_forms.NormalLoops.{variables_of, with_counters, bound_form, is_zero, is_constant, trip_of}
use Rattle.last_values.specs.normal_forms.NormalLoops.{trip_form, is_suitable, plus_number, plus_multiple, sign_of, trip_by}
use Rattle.last_values.specs.normal_forms.NormalLoops.{loop_form, with_forms, forms_by_trip, forms_by_first, forms_of, normal_loop}
use Rattle.last_values.specs.normal_forms.Numbers.{values_from}
use Rattle.last_values.specs.normal_forms.Steps.{◌>>=◌}
use Rattle.last_values.specs.declared.normal_forms.combinations.Multiple.{Multiple}
use Rattle.last_values.specs.declared.normal_forms.loops.NormalLoop.{NormalLoop}
use Rattle.pass_laws.proofs.ReadyNests.LoopForms.{HaveZeros, number_at, step, after_end, after_trip, after_top, after_value}
use Rattle.pass_laws.proofs.ReadyNests.LoopForms.{after_below, after_first, from_first, normal_loop_is}
use Rattle.pass_laws.proofs.ReadyNests.Sums.{Zero, IsSum, sum_of, sum_is_form, number_is_form, small_quotient}
use Rattle.subscripts.specs.Shapes.{IsForm, IsSmall}
use Rattle.subscripts.specs.declared.affine.Affine.{Affine}
use Rattle.pass_laws.proofs.NormalFacts.StatementKinds.{IsSmallForm, IsSmallLoop, small_form}

-- ---- numbers within the limit

small_is : (z : ℤ) → is_small z ≡ true → IsSmall z
small_is z h = let e = leb-true (nat_abs z) (2 ^ 40) h in omega (arith, ints)

none_past : (a : Affine) → Zero 7 a
none_past a k l m = absurd (omega (arith, l, m))

sum_small : (n : ℕ) (ts : List Multiple) (a : Affine) → combination n ts ≡ Some a → IsSmallForm a
sum_small n ts a h = small_form 7 a (sum_is_form n 7 ts a h (omega arith) (none_past a))

bound_small : (symbols : List (List ℕ)) (round : List NormalLoop) (e : Expression) (more : List Multiple) (a : Affine) → bound_form symbols round e more ≡ Some a → IsSmallForm a
unfolding bound_form
bound_small symbols round e more a h = by (form_of (variables_of round) symbols e) h
  where
    by : (o : Option Form) → (o >>= λ f. combination (length symbols) (with_counters round (affine_of (length round) f) ++ more)) ≡ Some a → IsSmallForm a
    by None g = let no : ⊥ = cc in absurd no
    by (Some f) g = sum_small (length symbols) (with_counters round (affine_of (length round) f) ++ more) a g

-- ---- trips

-- the dividend under d loops, over n symbols
pub record HasTop (n d : ℕ) (t : Trip) : Type 0 where
  pub form : Form
  pub affine : IsAffineOf d form t.top
  pub limited : is_limited d form ≡ true
  pub short : length form.coefficients ≤ d + n
  pub seven : length t.top.loops ≡ 7

front_of : (d : ℕ) (ls es : List ℤ) → d ≤ length ls → take d (take d ls ++ es) ≡ take d ls
front_of zero ls es h = refl
front_of (suc d) [] es h = absurd (omega (arith, h))
front_of (suc d) (l ∷ ls) es h = ap (λ ms. l ∷ ms) (front_of d ls es (omega (arith, h)))

rest_of : (d : ℕ) (ls es : List ℤ) → d ≤ length ls → drop d (take d ls ++ es) ≡ es
rest_of zero ls es h = refl
rest_of (suc d) [] es h = absurd (omega (arith, h))
rest_of (suc d) (l ∷ ls) es h = rest_of d ls es (omega (arith, h))

small_front : (d : ℕ) (ls : List ℤ) → all_small ls ≡ true → all_small (take d ls) ≡ true
small_front zero ls h = refl
small_front (suc d) [] h = refl
small_front (suc d) (l ∷ ls) h = let p = both (is_small l) (all_small ls) h in ap (λ b. b && all_small (take d ls)) p.0 ∙ small_front d ls p.1

small_joined : (ls es : List ℤ) → all_small ls ≡ true → all_small es ≡ true → all_small (ls ++ es) ≡ true
small_joined [] es h k = k
small_joined (l ∷ ls) es h k = let p = both (is_small l) (all_small ls) h in ap (λ b. b && all_small (ls ++ es)) p.0 ∙ small_joined ls es p.1 k

front_at : (d : ℕ) (ls : List ℤ) → ((k : ℕ) → d ≤ k → get_or ls k (pos 0) ≡ pos 0) → (k : ℕ) → get_or ls k (pos 0) ≡ get_or (take d ls) k (pos 0)
front_at zero ls h k = h k (omega arith)
front_at (suc d) [] h k = refl
front_at (suc d) (l ∷ ls) h zero = refl
front_at (suc d) (l ∷ ls) h (suc k) = front_at d ls (λ j m. h (suc j) (omega (arith, m))) k

limits_from : (d : ℕ) (f : Form) → all_small f.coefficients ≡ true → is_small f.constant ≡ true → not_zero (drop d f.coefficients) ≤ 8 → is_limited d f ≡ true
limits_from d f a b c =
    ap (λ t. t && (is_small f.constant && nat_le (not_zero (drop d f.coefficients)) 8)) a
    ∙ (ap (λ t. t && nat_le (not_zero (drop d f.coefficients)) 8) b ∙ le-leb (not_zero (drop d f.coefficients)) 8 c)

values_length : (n j : ℕ) (f : ℕ → ℤ) → length (values_from n j f) ≡ n
values_length zero j f = refl
values_length (suc n) j f = ap suc (values_length n (j + 1) f)

sum_top : (n d : ℕ) (ts : List Multiple) (a : Affine) (by : ℤ) → d ≤ 7 → IsSum n ts a → IsForm d a → HasTop n d (record { top = a; by = by })
sum_top n d ts a by few s form =
    let len : length a.loops ≡ 7 = ap (λ (ls : List ℤ). length ls) s.loops in
    let within : d ≤ length a.loops = omega (arith, few, len) in
    let rest = rest_of d a.loops s.symbols within in
    let most = s.few in
    let many : length s.symbols ≡ n = ap (λ (es : List ℤ). length es) s.values ∙ values_length n 0 _ in
    let front = length-take d a.loops in
    let both_parts = length-append (take d a.loops) s.symbols in
    let f : Form = record { coefficients = take d a.loops ++ s.symbols; constant = a.constant } in
    record {
      form = f;
      affine = record {
        loops = λ k. front_at d a.loops form.past_depth k ∙ ap (λ (ls : List ℤ). get_or ls k (pos 0)) (sym (front_of d a.loops s.symbols within));
        symbols = s.syms ∙ ap (λ (es : List ℤ). padded (terms_from 0 es)) (sym rest);
        constant = refl;
      };
      limited = limits_from d f (small_joined (take d a.loops) s.symbols (small_front d a.loops s.small) s.small_symbols) s.constant
          (subst (λ (es : List ℤ). not_zero es ≤ 8) (sym rest) most);
      short = omega (arith, front, both_parts, many);
      seven = len;
    }

no_front : (d k : ℕ) → get_or (take d []) k (pos 0) ≡ pos 0
no_front zero k = refl
no_front (suc d) k = refl

no_rest : (d : ℕ) → ◌≡◌ {A = List ℤ} (drop d []) []
no_rest zero = refl
no_rest (suc d) = refl

number_top : (n d : ℕ) (z by : ℤ) → is_small z ≡ true → HasTop n d (record { top = number_form z; by = by })
number_top n d z by h =
    let f : Form = record { coefficients = []; constant = z } in
    record {
      form = f;
      affine = record {
        loops = λ k. number_at z k ∙ sym (no_front d k);
        symbols = ap (λ (es : List ℤ). padded (terms_from 0 es)) (sym (no_rest d));
        constant = refl;
      };
      limited = limits_from d f refl h (subst (λ (es : List ℤ). not_zero es ≤ 8) (sym (no_rest d)) (omega arith));
      short = omega arith;
      seven = refl;
    }

top_of : (n d m : ℕ) (ts : List Multiple) (a : Affine) → combination n ts ≡ Some a → d ≤ 7 → IsForm d (trip_of a (pos m)).top → HasTop n d (trip_of a (pos m))
top_of n d m ts a h few form = by (is_constant a) form
  where
    s : IsSum n ts a
    s = sum_of n ts a h

    by : (b : Bool) → IsForm d (cond {A = Trip} b (record { top = number_form (int_div a.constant (pos m)); by = pos 1 }) (record { top = a; by = pos m })).top
        → HasTop n d (cond b (record { top = number_form (int_div a.constant (pos m)); by = pos 1 }) (record { top = a; by = pos m }))
    by true g = number_top n d (int_div a.constant (pos m)) (pos 1) (small_quotient a.constant m s.constant)
    by false g = sum_top n d ts a (pos m) few s g

record SmallTrip (t : Trip) : Type 0 where
  top : IsSmallForm t.top
  divisor : ℕ
  is : t.by ≡ pos divisor
  small : divisor ≤ 2 ^ 40

trip_small : (n m : ℕ) (ts : List Multiple) (a : Affine) → combination n ts ≡ Some a → m ≤ 2 ^ 40 → SmallTrip (trip_of a (pos m))
trip_small n m ts a h l = by (is_constant a)
  where
    s : IsSum n ts a
    s = sum_of n ts a h

    by : (b : Bool) → SmallTrip (cond b (record { top = number_form (int_div a.constant (pos m)); by = pos 1 }) (record { top = a; by = pos m }))
    by true = record { top = small_form 7 (number_form (int_div a.constant (pos m))) (number_is_form 7 (int_div a.constant (pos m)) (small_quotient a.constant m s.constant)); divisor = 1; is = refl; small = omega arith }
    by false = record { top = sum_small n ts a h; divisor = m; is = refl; small = l }

-- ---- a loop under these loops

pub record HasLimits (n d : ℕ) (r : NormalLoop) : Type 0 where
  pub small : IsSmallLoop r
  pub top : HasTop n d r.trip

module _ (symbols : List (List ℕ)) (round : List NormalLoop) (l : Loop) (r : NormalLoop) where
  abbrev n : ℕ
  n = length symbols

  abbrev d : ℕ
  d = length round

  same_loop : (s t : NormalLoop) → ◌≡◌ {A = Option NormalLoop} (Some s) (Some t) → s ≡ t
  same_loop s t h = cc

  same_trip : (s t : Trip) → ◌≡◌ {A = Option Trip} (Some s) (Some t) → s ≡ t
  same_trip s t h = cc

  loop_limits : (first below value : Affine) (built trip : Trip) (end : Affine) → with_forms l first below value trip end ≡ r → built ≡ trip → IsSmall l.step
      → IsSmallForm first → IsSmallForm below → IsSmallForm end → SmallTrip built → HasTop n d built → HasLimits n d r
  loop_limits first below value built trip end same is s a b e t top =
      let u : SmallTrip trip = subst SmallTrip is t in
      subst (HasLimits n d) same (record {
        small = record { step = s; first = a; below = b; end = e; top = u.top; divisor = u.divisor; by = u.is; small = u.small };
        top = subst (HasTop n d) is top;
      })

  form_back : (q : NormalLoop) (built : Trip) → q ≡ r → built ≡ q.trip → IsForm d r.trip.top → IsForm d built.top
  form_back q built same is h = subst (λ (t : Trip). IsForm d t.top) (sym is) (subst (λ (q : NormalLoop). IsForm d q.trip.top) (sym same) h)

  limits : is_small l.step ≡ true → d ≤ 7 → IsForm d r.trip.top → from_first symbols round l ≡ Some r → HasLimits n d r
  limits small few form h =
      let s1 = step (bound_form symbols round l.first []) (after_first symbols round l) r h in
      let s2 = step (plus_number n s1.result (neg_ℤ l.step)) (after_below symbols round l s1.result) r s1.then in
      let s3 = step (plus_multiple n s2.result l.step (loop_form d)) (after_value symbols round l s1.result s2.result) r s2.then in
      let s4 = step (bound_form symbols round l.last (times (negsuc 0) s2.result ∷ [])) (after_top symbols round l s1.result s2.result s3.result) r s3.then in
      let s5 = step (trip_by n l.step s4.result) (after_trip symbols round l s1.result s2.result s3.result) r s4.then in
      let s6 = step (plus_multiple (n + 1) s1.result l.step (trip_form n s5.result)) (after_end symbols round l s1.result s2.result s3.result s5.result) r s5.then in
      let s7 = step (combination n (times (sign_of l.step) s4.result ∷ [])) (λ top. Some (trip_of top (pos (nat_abs l.step)))) s5.result s5.is in
      let is : NormalLoop = with_forms l s1.result s2.result s3.result s5.result s6.result in
      let built : Trip = trip_of s7.result (pos (nat_abs l.step)) in
      let same : is ≡ r = same_loop is r s6.then in
      let trip : built ≡ s5.result = same_trip built s5.result s7.then in
      loop_limits s1.result s2.result s3.result built s5.result s6.result same trip (small_is l.step small)
      (bound_small symbols round l.first [] s1.result s1.is)
      (sum_small n (times (pos 1) s1.result ∷ times (neg_ℤ l.step) (number_form (pos 1)) ∷ []) s2.result s2.is)
      (sum_small (n + 1) (times (pos 1) s1.result ∷ times l.step (trip_form n s5.result) ∷ []) s6.result s6.is)
      (trip_small n (nat_abs l.step) (times (sign_of l.step) s4.result ∷ []) s7.result s7.is (leb-true (nat_abs l.step) (2 ^ 40) small))
      (top_of n d (nat_abs l.step) (times (sign_of l.step) s4.result ∷ []) s7.result s7.is few (form_back is built same trip form))

pub loop_has_limits : (symbols : List (List ℕ)) (round : List NormalLoop) (l : Loop) (r : NormalLoop) → HaveZeros (length round) round → normal_loop symbols round l ≡ Some r
    → HasLimits (length symbols) (length round) r
unfolding normal_loop forms_of forms_by_first forms_by_trip
loop_has_limits symbols round l r z h = by (normal_loop_is symbols round l r z h).trip.top (is_suitable l.step round) refl h
  where
    by : IsForm (length round) r.trip.top → (b : Bool) → is_suitable l.step round ≡ b → cond b (from_first symbols round l) None ≡ Some r → HasLimits (length symbols) (length round) r
    by form true e k =
        let p = both (not (is_zero l.step)) (is_small l.step && nat_lt (length round) 7) e in
        let q = both (is_small l.step) (nat_lt (length round) 7) p.1 in
        let few = leb-true (suc (length round)) 7 q.1 in
        limits symbols round l r q.0 (omega (arith, few)) form k
    by form false e k = let no : ⊥ = cc in absurd no
