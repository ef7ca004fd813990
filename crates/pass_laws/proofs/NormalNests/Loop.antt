-- A loop whose forms keep the limits has a loop from 1 by 1.
use mathlib.Core.Path.{ap₂}
use Rattle.std.proofs.Common.{◌≡◌, ◌≢◌, refl, sym, ap, ◌∙◌, subst, inl, inr, ◌⊎◌, ℕ, zero, suc, ◌+◌, ◌-◌, ◌≤◌, ◌<◌, ◌^◌, ℤ, pos, negsuc, neg_ℤ, ◌+ℤ◌, ◌*ℤ◌, Bool, true, false, cond, ◌&&◌, not, List, [], ◌∷◌, ◌++◌, map, take, drop, length, replicate, Option, Some, None, arith}
use Rattle.std.specs.Prelude.{nat_abs, nat_le, nat_lt, int_div, int_lt, int_le, ◌==◌}
use Rattle.std.specs.List.{list_all}
use Rattle.std.specs.Ordering.{int_eq}
use Rattle.std.proofs.lemmas.Bool.{leb-true, le-leb, le-ltb, eqb-true, eq-eqb, cases_eq, cases_lt}
use Rattle.std.proofs.lemmas.Bool.Decides.{Decides-int_eq, Decides-ltb}
use Rattle.std.proofs.Math.IntN.{*ℤ-zero}
use Rattle.std.proofs.lemmas.Int.{ints}
use Rattle.std.proofs.lemmas.List.{append-nil, get_or_past}
use Rattle.subscripts.specs.declared.affine.Affine.{Affine}
use Rattle.linear_forms.specs.Linear.{Form, sum, multiple, constant_form, is_small, all_small, not_zero}
use Rattle.linear_forms.specs.Places.{padded, terms_from, unit_form}
use Rattle.linear_forms.proofs.Sizes.{both}
use Rattle.nest.specs.Plain.{Loop}
use Rattle.nest.specs.declared.parts.Trip.{Trip}
use Rattle.find_nests.specs.bound_limits.Composed as outer
use Rattle.find_nests.specs.bound_limits.Composed.{Outer}
use Rattle.find_nests.specs.bound_limits.Limits.{keeps_limits, plus_constant, difference, is_constant_form, dividend, folded, end_keeps_limits, normal, all_keep_limits}
use Rattle.find_nests.proofs.BoundLimits.Lists.{get_or-scaled, added-nil}
use Rattle.find_nests.proofs.BoundLimits.LimitLaws.{abs-neg}
use Rattle.last_values.specs.declared.normal_forms.combinations.Multiple.{Multiple}
use Rattle.last_values.specs.declared.normal_forms.loops.NormalLoop.{NormalLoop}
use Rattle.last_values.specs.declared.normal_forms.places.Place.TheVariants as place
use Rattle.last_values.specs.normal_forms.Steps.{◌>>=◌}
use Rattle.last_values.specs.normal_forms.Combinations.{coefficient_in, number_of_place, combined_at, combination, has_small_factor, affine_of, number_form, times}
use Rattle.last_values.specs.normal_forms.NormalLoops as loops
use Rattle.last_values.specs.normal_forms.NormalLoops.{variables_of, with_counters, bound_form, one_at, loop_form, symbol_form, is_zero, has_no_loops, has_no_symbols, trip_of, trip_form, is_undivided, is_suitable, plus_number, plus_multiple, sign_of, trip_by, with_forms, forms_by_trip, forms_by_first, forms_of, normal_loop}
use Rattle.last_values.specs.normal_forms.Numbers.{values_from}
use Rattle.last_values.proofs.NormalForms.Numbers.{none_among_zeros, places_of}
use Rattle.pass_laws.proofs.ReadyNests.LoopForms.{HaveZeros, bound_zeros, number_at, seven-at, after_first, after_below, after_value, after_top, after_trip, after_end}
use Rattle.pass_laws.proofs.ReadyNests.Sums.{sum_of}
use Rattle.pass_laws.proofs.NormalNests.Bounds.{AllStand, IsBound, bound_is}
use Rattle.pass_laws.proofs.NormalNests.Combined.{IsSame, AddsUpTo, IsWithin, HasSum, IsMade, IsAlike, has_sum, sum_within, sum_made, sum_past, kept_within, front_alike, adds_alike, one_adds, two_add, joined_add, sum_at, keeps_more, values_front}
use Rattle.pass_laws.proofs.NormalNests.Spread.{At, small_at, no_zero, alike_not_zero}

-- ---- simple forms

no_symbol : (j : ℕ) → number_of_place (number_form (pos 0)) (place.Symbol j) ≡ pos 0
no_symbol j = none_among_zeros 8 j

number_is : (n : ℕ) (z : ℤ) → IsSame n (number_form z) (constant_form z)
number_is n z = record {
  symbols = λ j l. no_symbol j;
  loops = λ k l. number_at z k;
  constant = refl;
}

unit_here : (m : ℕ) → At (unit_form m).coefficients m ≡ pos 1
unit_here zero = refl
unit_here (suc m) = unit_here m

unit_other : (m i : ℕ) → i ≢ m → At (unit_form m).coefficients i ≡ pos 0
unit_other zero zero h = absurd (h refl)
unit_other zero (suc i) h = refl
unit_other (suc m) zero h = refl
unit_other (suc m) (suc i) h = unit_other m i (λ e. h (ap suc e))

one_here : (d k : ℕ) → k ≡ d → one_at d k ≡ pos 1
one_here d k e = ap (λ b. cond b (pos 1) (pos 0)) (eq-eqb k d e)

one_other : (d k : ℕ) → k ≢ d → one_at d k ≡ pos 0
one_other d k h = by (k == d) refl
  where
    by : (b : Bool) → (k == d) ≡ b → cond b (pos 1) (pos 0) ≡ pos 0
    by true e = absurd (h (eqb-true k d e))
    by false e = refl

loop_is : (n d : ℕ) → IsSame n (loop_form d) (unit_form (n + d))
loop_is n d = record {
  symbols = λ j l. no_symbol j ∙ sym (unit_other (n + d) j (λ e. absurd (omega (arith, l, e))));
  loops = λ k l. seven-at (one_at d) k l ∙ by k (cases_eq k d);
  constant = refl;
}
  where
    by : (k : ℕ) → (k ≡ d) ⊎ (k ≢ d) → one_at d k ≡ At (unit_form (n + d)).coefficients (n + k)
    by k (inl e) = one_here d k e ∙ sym (ap (λ m. At (unit_form (n + d)).coefficients (n + m)) e ∙ unit_here (n + d))
    by k (inr h) = one_other d k h ∙ sym (unit_other (n + d) (n + k) (λ e. h (omega (arith, e))))

-- ---- limits

small_one : is_small (pos 1) ≡ true
small_one = refl

small_neg : (z : ℤ) → is_small z ≡ true → is_small (neg_ℤ z) ≡ true
small_neg z h = ap (λ k. nat_le k (2 ^ 40)) (abs-neg z) ∙ h

alike_within : (n : ℕ) (f g : Form) → IsAlike f g → IsWithin n f → IsWithin n g
alike_within n f g e w =
    let same = alike_not_zero (take n f.coefficients) (take n g.coefficients) (front_alike n f.coefficients g.coefficients (λ i l. e.coefficients i)) in
    let most = w.count in
    record {
      small = λ i. ap is_small (sym (e.coefficients i)) ∙ w.small i;
      constant = ap is_small (sym e.constant) ∙ w.constant;
      count = omega (arith, same, most);
    }

-- a sign changes no size
abbrev IsSign : ℤ → Type 0
IsSign s = (s ≡ pos 1) ⊎ (s ≡ negsuc 0)

small_sign : (s z : ℤ) → IsSign s → is_small (s *ℤ z) ≡ is_small z
small_sign s z (inl e) = ap is_small (ap (λ w. w *ℤ z) e ∙ one z)
  where
    one : (z : ℤ) → pos 1 *ℤ z ≡ z
    one z = omega (arith, ints)
small_sign s z (inr e) = ap is_small (ap (λ w. w *ℤ z) e ∙ minus z) ∙ ap (λ k. nat_le k (2 ^ 40)) (abs-neg z)
  where
    minus : (z : ℤ) → negsuc 0 *ℤ z ≡ neg_ℤ z
    minus z = omega (arith, ints)

zero_sign : (s z : ℤ) → IsSign s → int_eq (s *ℤ z) (pos 0) ≡ int_eq z (pos 0)
zero_sign s z h = by (int_eq (s *ℤ z) (pos 0)) refl (int_eq z (pos 0)) refl
  where
    to : IsSign s → s *ℤ z ≡ pos 0 → z ≡ pos 0
    to (inl e) k = plain z (ap (λ w. w *ℤ z) (sym e) ∙ k)
      where
        plain : (z : ℤ) → pos 1 *ℤ z ≡ pos 0 → z ≡ pos 0
        plain z k = omega (arith, ints, k)
    to (inr e) k = turned z (ap (λ w. w *ℤ z) (sym e) ∙ k)
      where
        turned : (z : ℤ) → negsuc 0 *ℤ z ≡ pos 0 → z ≡ pos 0
        turned z k = omega (arith, ints, k)

    from : z ≡ pos 0 → s *ℤ z ≡ pos 0
    from e = ap (λ w. s *ℤ w) e ∙ *ℤ-zero s

    by : (b : Bool) → int_eq (s *ℤ z) (pos 0) ≡ b → (c : Bool) → int_eq z (pos 0) ≡ c → b ≡ c
    by true e true f = refl
    by true e false f = let yes = (Decides-int_eq z (pos 0)).1 (to h ((Decides-int_eq (s *ℤ z) (pos 0)).0 e)) in let no : ⊥ = cc in absurd no
    by false e true f = let yes = (Decides-int_eq (s *ℤ z) (pos 0)).1 (from ((Decides-int_eq z (pos 0)).0 f)) in let no : ⊥ = cc in absurd no
    by false e false f = refl

signed_within : (n : ℕ) (s : ℤ) (f : Form) → IsSign s → IsWithin n f → IsWithin n (multiple s f)
signed_within n s f h w =
    let same = counted n f.coefficients in
    let most = w.count in
    record {
      small = λ i. ap is_small (get_or-scaled s f.coefficients i) ∙ small_sign s (At f.coefficients i) h ∙ w.small i;
      constant = small_sign s f.constant h ∙ w.constant;
      count = omega (arith, same, most);
    }
  where
    counted : (n : ℕ) (cs : List ℤ) → not_zero (take n (map (λ a. s *ℤ a) cs)) ≡ not_zero (take n cs)
    counted zero cs = refl
    counted (suc n) [] = refl
    counted (suc n) (c ∷ cs) = ap₂ (λ b k. cond b k (suc k)) (zero_sign s c h) (counted n cs)

-- ---- trips

is_one : (m : ℕ) → int_eq (pos m) (pos 1) ≡ (m == 1)
is_one m = by (int_eq (pos m) (pos 1)) refl (m == 1) refl
  where
    same : pos m ≡ pos 1 → m ≡ 1
    same e = ap nat_abs e

    by : (b : Bool) → int_eq (pos m) (pos 1) ≡ b → (c : Bool) → (m == 1) ≡ c → b ≡ c
    by true e true f = refl
    by true e false f = let yes = eq-eqb m 1 (same ((Decides-int_eq (pos m) (pos 1)).0 e)) in let no : ⊥ = cc in absurd no
    by false e true f = let yes = (Decides-int_eq (pos m) (pos 1)).1 (ap pos (eqb-true m 1 f)) in let no : ⊥ = cc in absurd no
    by false e false f = refl

positive : (m : ℕ) → (int_lt (pos m) (pos 0) ≡ false) × (int_le (pos 0) (pos m) ≡ true)
positive m = (le-ltb m 0 (omega arith), le-leb 0 m (omega arith))

sign_is : (z : ℤ) → IsSign (sign_of z)
sign_is (pos m) = inl (ap (λ b. cond b (negsuc 0) (pos 1)) (positive m).0)
sign_is (negsuc m) = inr refl

plain_at : (f : Form) (z : ℤ) (i : ℕ) → At (plus_constant f z).coefficients i ≡ At f.coefficients i
plain_at f z i = ap (λ cs. At cs i) (added-nil f.coefficients)

-- what is divided, with its sign, is the last value less the first one and the step
dividend_is : (z : ℤ) (f g : Form) → IsAlike (sum g (multiple (negsuc 0) (plus_constant f (neg_ℤ z)))) (multiple (sign_of z) (dividend z f g))
dividend_is (pos m) f g =
    subst (λ s. IsAlike (sum g (multiple (negsuc 0) (plus_constant f (neg_ℤ (pos m))))) (multiple s (dividend (pos m) f g))) (sym (ap (λ b. cond b (negsuc 0) (pos 1)) (positive m).0))
    (subst (λ h. IsAlike (sum g (multiple (negsuc 0) (plus_constant f (neg_ℤ (pos m))))) (multiple (pos 1) h)) (sym (ap (λ b. cond b (plus_constant (difference g f) (pos m)) (plus_constant (difference f g) (neg_ℤ (pos m)))) (positive m).1)) up)
  where
    once : (x y : ℤ) → x +ℤ negsuc 0 *ℤ y ≡ pos 1 *ℤ (x +ℤ negsuc 0 *ℤ y)
    once x y = omega (arith, ints)

    whole : (x y k : ℤ) → x +ℤ negsuc 0 *ℤ (y +ℤ neg_ℤ k) ≡ pos 1 *ℤ ((x +ℤ negsuc 0 *ℤ y) +ℤ k)
    whole x y k = omega (arith, ints)

    up : IsAlike (sum g (multiple (negsuc 0) (plus_constant f (neg_ℤ (pos m))))) (multiple (pos 1) (plus_constant (difference g f) (pos m)))
    up = record {
      coefficients = λ i.
          sum_at g (plus_constant f (neg_ℤ (pos m))) (negsuc 0) i ∙ ap (λ x. At g.coefficients i +ℤ negsuc 0 *ℤ x) (plain_at f (neg_ℤ (pos m)) i)
          ∙ once (At g.coefficients i) (At f.coefficients i)
          ∙ sym (get_or-scaled (pos 1) (plus_constant (difference g f) (pos m)).coefficients i
          ∙ ap (λ x. pos 1 *ℤ x) (plain_at (difference g f) (pos m) i ∙ sum_at g f (negsuc 0) i));
      constant = whole g.constant f.constant (pos m);
    }
dividend_is (negsuc m) f g = record {
  coefficients = λ i.
      sum_at g (plus_constant f (neg_ℤ (negsuc m))) (negsuc 0) i ∙ ap (λ x. At g.coefficients i +ℤ negsuc 0 *ℤ x) (plain_at f (neg_ℤ (negsuc m)) i)
      ∙ once (At g.coefficients i) (At f.coefficients i)
      ∙ sym (get_or-scaled (negsuc 0) (plus_constant (difference f g) (neg_ℤ (negsuc m))).coefficients i
      ∙ ap (λ x. negsuc 0 *ℤ x) (plain_at (difference f g) (neg_ℤ (negsuc m)) i ∙ sum_at f g (negsuc 0) i));
  constant = whole g.constant f.constant (neg_ℤ (negsuc m));
}
  where
    once : (x y : ℤ) → x +ℤ negsuc 0 *ℤ y ≡ negsuc 0 *ℤ (y +ℤ negsuc 0 *ℤ x)
    once x y = omega (arith, ints)

    whole : (x y k : ℤ) → x +ℤ negsuc 0 *ℤ (y +ℤ k) ≡ negsuc 0 *ℤ ((y +ℤ negsuc 0 *ℤ x) +ℤ k)
    whole x y k = omega (arith, ints)

-- a sign twice is none
twice : (s z : ℤ) → IsSign s → s *ℤ (s *ℤ z) ≡ z
twice s z (inl e) = ap (λ w. w *ℤ (w *ℤ z)) e ∙ one z
  where
    one : (z : ℤ) → pos 1 *ℤ (pos 1 *ℤ z) ≡ z
    one z = omega (arith, ints)
twice s z (inr e) = ap (λ w. w *ℤ (w *ℤ z)) e ∙ two z
  where
    two : (z : ℤ) → negsuc 0 *ℤ (negsuc 0 *ℤ z) ≡ z
    two z = omega (arith, ints)

signed_twice : (s : ℤ) (f : Form) → IsSign s → IsAlike (multiple s (multiple s f)) f
signed_twice s f h = record {
  coefficients = λ i. get_or-scaled s (map (λ a. s *ℤ a) f.coefficients) i ∙ ap (λ x. s *ℤ x) (get_or-scaled s f.coefficients i) ∙ twice s (At f.coefficients i) h;
  constant = twice s f.constant h;
}

small_of_sign : (s : ℤ) → IsSign s → (is_small s && true) ≡ true
small_of_sign s (inl e) = ap (λ w. is_small w && true) e
small_of_sign s (inr e) = ap (λ w. is_small w && true) e

small_joined : (ts us : List Multiple) → list_all has_small_factor ts ≡ true → list_all has_small_factor us ≡ true → list_all has_small_factor (ts ++ us) ≡ true
small_joined [] us h k = k
small_joined (t ∷ ts) us h k =
    let p = both (has_small_factor t) (list_all has_small_factor ts) h in
    ap (λ b. b && list_all has_small_factor (ts ++ us)) p.0 ∙ small_joined ts us p.1 k

-- ---- whether a form is constant

zero_loops : (zs : List ℤ) → ((k : ℕ) → At zs k ≡ pos 0) → list_all is_zero zs ≡ true
zero_loops [] h = refl
zero_loops (z ∷ zs) h = ap (λ b. b && list_all is_zero zs) ((Decides-int_eq z (pos 0)).1 (h 0)) ∙ zero_loops zs (λ k. h (suc k))

loops_zero : (zs : List ℤ) (k : ℕ) → list_all is_zero zs ≡ true → At zs k ≡ pos 0
loops_zero [] k h = refl
loops_zero (z ∷ zs) zero h = (Decides-int_eq z (pos 0)).0 (both (is_zero z) (list_all is_zero zs) h).0
loops_zero (z ∷ zs) (suc k) h = loops_zero zs k (both (is_zero z) (list_all is_zero zs) h).1

symbols_zero : (ts : List (ℕ × ℤ)) (j : ℕ) → list_all loops.is_unused ts ≡ true → coefficient_in ts j ≡ pos 0
symbols_zero [] j h = refl
symbols_zero (t ∷ ts) j h =
    let p = both (loops.is_unused t) (list_all loops.is_unused ts) h in
    by (t.0 == j) ((Decides-int_eq t.1 (pos 0)).0 p.0) (symbols_zero ts j p.1)
  where
    by : (b : Bool) → t.1 ≡ pos 0 → coefficient_in ts j ≡ pos 0 → cond b t.1 (coefficient_in ts j) ≡ pos 0
    by true e g = e
    by false e g = g

no_terms_left : (o : ℕ) (es : List ℤ) → ((j : ℕ) → At es j ≡ pos 0) → terms_from o es ≡ []
no_terms_left o [] h = refl
no_terms_left o (e ∷ es) h = ap (λ b. cond b (terms_from (suc o) es) ((o, e) ∷ terms_from (suc o) es)) ((Decides-int_eq e (pos 0)).1 (h 0)) ∙ no_terms_left (suc o) es (λ j. h (suc j))

-- a form without coefficients
abbrev HasNone : Form → Type 0
HasNone f = (i : ℕ) → At f.coefficients i ≡ pos 0

none_by_count : (cs : List ℤ) → not_zero cs ≡ 0 → (i : ℕ) → At cs i ≡ pos 0
none_by_count [] h i = refl
none_by_count (c ∷ cs) h i = by (int_eq c (pos 0)) refl h i (λ k j. none_by_count cs k j)
  where
    by : (b : Bool) → int_eq c (pos 0) ≡ b → cond b (not_zero cs) (suc (not_zero cs)) ≡ 0 → (i : ℕ) → (not_zero cs ≡ 0 → (j : ℕ) → At cs j ≡ pos 0) → At (c ∷ cs) i ≡ pos 0
    by true e k zero more = (Decides-int_eq c (pos 0)).0 e
    by true e k (suc i) more = more k i
    by false e k i more = absurd (omega (arith, k))

module _ (n : ℕ) (ts : List Multiple) (a : Affine) (f : Form) (is : combination n ts ≡ Some a) (same : IsSame n a f) (past : (i : ℕ) → n + 7 ≤ i → At f.coefficients i ≡ pos 0) where
  constant_then_none : loops.is_constant a ≡ true → HasNone f
  constant_then_none h i =
      let p = both (has_no_loops a) (has_no_symbols a) h in
      by p.0 p.1 (cases_lt i n) (cases_lt i (n + 7))
    where
      by : has_no_loops a ≡ true → has_no_symbols a ≡ true → (i < n) ⊎ (n ≤ i) → (i < n + 7) ⊎ (n + 7 ≤ i) → At f.coefficients i ≡ pos 0
      by x y (inl l) m = sym (same.symbols i l) ∙ symbols_zero a.syms i y
      by x y (inr l) (inl m) =
          let e : n + (i - n) ≡ i = omega (arith, l) in
          ap (λ k. At f.coefficients k) (sym e) ∙ sym (same.loops (i - n) (omega (arith, l, m))) ∙ loops_zero a.loops (i - n) x
      by x y (inr l) (inr m) = past i m

  none_then_constant : HasNone f → loops.is_constant a ≡ true
  none_then_constant h =
      let s = sum_of n ts a is in
      let no_loop : (k : ℕ) → At a.loops k ≡ pos 0 = λ k. by_loop k (cases_lt k 7) in
      ap (λ b. b && has_no_symbols a) (zero_loops a.loops no_loop)
      ∙ (ap (λ us. list_all loops.is_unused us) s.syms
      ∙ ap (λ us. list_all loops.is_unused (padded us)) (no_terms_left 0 s.symbols (λ j. ap (λ es. At es j) s.values ∙ no_value j)))
    where
      by_loop : (k : ℕ) → (k < 7) ⊎ (7 ≤ k) → At a.loops k ≡ pos 0
      by_loop k (inl l) = same.loops k l ∙ h (n + k)
      by_loop k (inr l) =
          let s = sum_of n ts a is in
          let len : length a.loops ≡ 7 = ap (λ (ls : List ℤ). length ls) s.loops in
          get_or_past a.loops k (pos 0) (omega (arith, l, len))

      value_zero : (m j : ℕ) (g : ℕ → ℤ) → ((i : ℕ) → i < j + m → g i ≡ pos 0) → (i : ℕ) → At (values_from m j g) i ≡ pos 0
      value_zero zero j g k i = refl
      value_zero (suc m) j g k zero = k j (omega arith)
      value_zero (suc m) j g k (suc i) = value_zero m (j + 1) g (λ q l. k q (omega (arith, l))) i

      no_value : (j : ℕ) → At (values_from n 0 (λ i. combined_at ts (place.Symbol i))) j ≡ pos 0
      no_value j = value_zero n 0 (λ i. combined_at ts (place.Symbol i)) (λ i l. sym ((places_of n ts a is).symbols i (omega (arith, l))) ∙ same.symbols i (omega (arith, l)) ∙ h i) j

  -- both are constant, or none is
  constants_agree : (b c : Bool) → loops.is_constant a ≡ b → is_constant_form f ≡ c → b ≡ c
  constants_agree true true e g = refl
  constants_agree true false e g = let yes : is_constant_form f ≡ true = eq-eqb (not_zero f.coefficients) 0 (no_zero f.coefficients (constant_then_none e)) in let no : ⊥ = cc in absurd no
  constants_agree false true e g = let yes : loops.is_constant a ≡ true = none_then_constant (none_by_count f.coefficients (eqb-true (not_zero f.coefficients) 0 g)) in let no : ⊥ = cc in absurd no
  constants_agree false false e g = refl

-- ---- the last value

symbol_here : (n : ℕ) → number_of_place (symbol_form n) (place.Symbol n) ≡ pos 1
symbol_here n = ap (λ b. cond b (pos 1) (coefficient_in (replicate 7 (0, pos 0)) n)) (eq-eqb n n refl)

symbol_other : (n j : ℕ) → j < n → number_of_place (symbol_form n) (place.Symbol j) ≡ pos 0
symbol_other n j l = by (n == j) refl
  where
    by : (b : Bool) → (n == j) ≡ b → cond b (pos 1) (coefficient_in (replicate 7 (0, pos 0)) j) ≡ pos 0
    by true e = let s = eqb-true n j e in absurd (omega (arith, l, s))
    by false e = none_among_zeros 7 j

symbol_is : (n : ℕ) → IsSame n (symbol_form n) (constant_form (pos 0))
symbol_is n = record {
  symbols = λ j l. symbol_other n j l;
  loops = λ k l. number_at (pos 0) k;
  constant = refl;
}

module _ (n : ℕ) (step : ℤ) (ts : List Multiple) (first : Affine) (f : Form) (is : combination n ts ≡ Some first) (same : IsSame n first f) (small : is_small step ≡ true) where
  factors : (t : Affine) → list_all has_small_factor (times (pos 1) first ∷ times step t ∷ []) ≡ true
  factors t = ap (λ b. b && true) small

  -- the trip is a form of n symbols
  plain_end : (t : Affine) (g : Form) → IsSame n t g → number_of_place t (place.Symbol n) ≡ pos 0 → IsWithin n (sum f (multiple step g)) → HasSum (n + 1) (times (pos 1) first ∷ times step t ∷ [])
  plain_end t g s none w =
      let kept = sum_within n (times (pos 1) first ∷ times step t ∷ []) (sum f (multiple step g)) (factors t) (two_add n step first t f g same s) w in
      let none_here : combined_at (times (pos 1) first ∷ times step t ∷ []) (place.Symbol n) ≡ pos 0 = ap₂ (λ x y. pos 1 *ℤ x +ℤ (step *ℤ y +ℤ pos 0)) (sum_past n ts first is n (omega arith)) none ∙ nothing step in
      let count = kept.count in
      let no_count : not_zero (combined_at (times (pos 1) first ∷ times step t ∷ []) (place.Symbol n) ∷ []) ≡ 0 = ap (λ z. not_zero (z ∷ [])) none_here in
      has_sum (n + 1) (times (pos 1) first ∷ times step t ∷ []) (keeps_more n (times (pos 1) first ∷ times step t ∷ []) kept (ap is_small none_here) (omega (arith, count, no_count)))
    where
      nothing : (z : ℤ) → pos 1 *ℤ pos 0 +ℤ (z *ℤ pos 0 +ℤ pos 0) ≡ pos 0
      nothing z = ap (λ x. pos 1 *ℤ pos 0 +ℤ (x +ℤ pos 0)) (*ℤ-zero z)

  -- it is divided, and counts as one symbol more
  divided_end : IsWithin n f → not_zero (take n f.coefficients) + 1 ≤ 8 → HasSum (n + 1) (times (pos 1) first ∷ times step (symbol_form n) ∷ [])
  divided_end w few =
      let us : List Multiple = times (pos 1) first ∷ times step (symbol_form n) ∷ [] in
      let alike : IsAlike f (sum f (multiple step (constant_form (pos 0)))) = record {
        coefficients = λ i. ap (λ cs. At cs i) (sym (added-nil f.coefficients));
        constant = one f.constant ∙ ap (λ z. f.constant +ℤ z) (sym (*ℤ-zero step));
      } in
      let adds = two_add n step first (symbol_form n) f (constant_form (pos 0)) same (symbol_is n) in
      let kept = sum_within n us (sum f (multiple step (constant_form (pos 0)))) (factors (symbol_form n)) adds (alike_within n f (sum f (multiple step (constant_form (pos 0)))) alike w) in
      let here : combined_at us (place.Symbol n) ≡ step = ap₂ (λ x y. pos 1 *ℤ x +ℤ (step *ℤ y +ℤ pos 0)) (sum_past n ts first is n (omega arith)) (symbol_here n) ∙ alone step in
      let count = fewer us adds in
      let one_at_most = at_most_one (combined_at us (place.Symbol n)) in
      has_sum (n + 1) us (keeps_more n us kept (ap is_small here ∙ small) (omega (arith, count, few, one_at_most)))
    where
      one : (x : ℤ) → x ≡ x +ℤ pos 0
      one x = omega (arith, ints)

      alone : (z : ℤ) → pos 1 *ℤ pos 0 +ℤ (z *ℤ pos 1 +ℤ pos 0) ≡ z
      alone z = omega (arith, ints)

      at_most_one : (z : ℤ) → not_zero (z ∷ []) ≤ 1
      at_most_one z = by (int_eq z (pos 0))
        where
          by : (b : Bool) → cond b 0 1 ≤ 1
          by true = omega arith
          by false = omega arith

      fewer : (us : List Multiple) → AddsUpTo n us (sum f (multiple step (constant_form (pos 0)))) → not_zero (values_from n 0 (λ j. combined_at us (place.Symbol j))) ≡ not_zero (take n f.coefficients)
      fewer us s = alike_not_zero (values_from n 0 (λ j. combined_at us (place.Symbol j))) (take n f.coefficients)
          (values_front n 0 (λ j. combined_at us (place.Symbol j)) f.coefficients
          (λ i l. ap (λ m. combined_at us (place.Symbol m)) (let e : 0 + i ≡ i = omega arith in e) ∙ s.symbols i l ∙ ap (λ cs. At cs i) (added-nil f.coefficients)))

one_within : (n : ℕ) (f : Form) → keeps_limits n 1 f ≡ true → IsWithin n f × (not_zero (take n f.coefficients) + 1 ≤ 8)
one_within n f h =
    let p = both (all_small f.coefficients) (is_small f.constant && (nat_le (not_zero (take n f.coefficients) + 1) 8 && nat_le (not_zero (drop n f.coefficients)) 7)) h in
    let q = both (is_small f.constant) (nat_le (not_zero (take n f.coefficients) + 1) 8 && nat_le (not_zero (drop n f.coefficients)) 7) p.1 in
    let r = both (nat_le (not_zero (take n f.coefficients) + 1) 8) (nat_le (not_zero (drop n f.coefficients)) 7) q.1 in
    let most = leb-true (not_zero (take n f.coefficients) + 1) 8 r.0 in
    (record { small = small_at f.coefficients p.0; constant = q.0; count = omega (arith, most) }, most)

-- ---- a loop

and_three : (a b c e : Bool) → (a && (b && (c && e))) ≡ true → (a ≡ true) × (b ≡ true) × (c ≡ true) × (e ≡ true)
and_three true true true e h = (refl, refl, refl, h)
and_three true true false e h = let no : ⊥ = cc in absurd no
and_three true false c e h = let no : ⊥ = cc in absurd no
and_three false b c e h = let no : ⊥ = cc in absurd no

times_one : (z : ℤ) → z *ℤ pos 1 ≡ z
times_one z = omega (arith, ints)

-- a loop under these loops as one from 1 by 1
pub record IsTurned (symbols : List (List ℕ)) (round : List NormalLoop) (l : Loop) (f : Form) : Type 0 where
  pub turns : NormalLoop
  pub is : normal_loop symbols round l ≡ Some turns
  pub variable : turns.variable ≡ l.variable
  pub same : IsSame (length symbols) turns.value (normal (length symbols + length round) l.step f)
  pub past : (i : ℕ) → length symbols + 7 ≤ i → At (normal (length symbols + length round) l.step f).coefficients i ≡ pos 0

module _ (symbols : List (List ℕ)) (round : List NormalLoop) (around : List Outer) (l : Loop) (f g : Form) (stand : AllStand (length symbols) round around) (deep : length round < 7)
    (zeros : HaveZeros (length round) round) (first_is : outer.composed_bound symbols around l.first ≡ Some f) (last_is : outer.composed_bound symbols around l.last ≡ Some g)
    (kept : all_keep_limits (length symbols) l.step f g ≡ true) (nonzero : not (is_zero l.step) ≡ true) (small : is_small l.step ≡ true) where
  abbrev n : ℕ
  n = length symbols

  abbrev d : ℕ
  d = length round

  abbrev z : ℤ
  z = l.step

  abbrev less : Form
  less = plus_constant f (neg_ℤ l.step)

  abbrev top : Form
  top = dividend l.step f g

  abbrev value : Form
  value = normal (length symbols + length round) l.step f

  limits : (keeps_limits n 0 f ≡ true) × (keeps_limits n 0 less ≡ true) × (keeps_limits n 0 top ≡ true) × (end_keeps_limits n z f top ≡ true)
  limits = and_three (keeps_limits n 0 f) (keeps_limits n 0 less) (keeps_limits n 0 top) (end_keeps_limits n z f top) kept

  first_bound : IsBound symbols round l.first f
  first_bound = bound_is symbols round around stand (omega (arith, deep)) l.first f first_is

  last_bound : IsBound symbols round l.last g
  last_bound = bound_is symbols round around stand (omega (arith, deep)) l.last g last_is

  abbrev first_terms : List Multiple
  first_terms = with_counters round (affine_of d first_bound.form) ++ []

  made_first : IsMade n first_terms f
  made_first =
      sum_made n first_terms f (subst (λ ts. list_all has_small_factor ts ≡ true) (sym (append-nil (with_counters round (affine_of d first_bound.form)))) first_bound.factors)
      (subst (λ ts. AddsUpTo n ts f) (sym (append-nil (with_counters round (affine_of d first_bound.form)))) first_bound.adds) (kept_within n f limits.0)

  first_form : bound_form symbols round l.first [] ≡ Some made_first.form
  unfolding bound_form
  first_form = ap (λ o. o >>= λ h. combination n (with_counters round (affine_of d h) ++ [])) first_bound.is ∙ made_first.is

  -- ---- the lower bound less the step

  abbrev less_terms : List Multiple
  less_terms = times (pos 1) made_first.form ∷ times (neg_ℤ z) (number_form (pos 1)) ∷ []

  made_less : IsMade n less_terms less
  made_less =
      sum_made n less_terms less (ap (λ b. b && true) (small_neg z small))
      (adds_alike n less_terms (sum f (multiple (neg_ℤ z) (constant_form (pos 1)))) less
      (two_add n (neg_ℤ z) made_first.form (number_form (pos 1)) f (constant_form (pos 1)) made_first.same (number_is n (pos 1)))
      (record { coefficients = λ i. refl; constant = ap (λ x. f.constant +ℤ x) (times_one (neg_ℤ z)) }))
      (kept_within n less limits.1)

  -- ---- the variable

  abbrev value_terms : List Multiple
  value_terms = times (pos 1) made_less.form ∷ times z (loop_form d) ∷ []

  value_at : (i : ℕ) → At value.coefficients i ≡ At f.coefficients i +ℤ z *ℤ At (unit_form (n + d)).coefficients i
  value_at i = plain_at (sum f (multiple z (unit_form (n + d)))) (neg_ℤ z) i ∙ sum_at f (unit_form (n + d)) z i

  less_at : (i : ℕ) → At less.coefficients i ≡ At f.coefficients i
  less_at i = plain_at f (neg_ℤ z) i

  value_alike : IsAlike (sum less (multiple z (unit_form (n + d)))) value
  value_alike = record {
    coefficients = λ i. sum_at less (unit_form (n + d)) z i ∙ ap (λ x. x +ℤ z *ℤ At (unit_form (n + d)).coefficients i) (less_at i) ∙ sym (value_at i);
    constant = exchanged f.constant (neg_ℤ z) (z *ℤ pos 0);
  }
    where
      exchanged : (x y w : ℤ) → (x +ℤ y) +ℤ w ≡ (x +ℤ w) +ℤ y
      exchanged x y w = omega (arith, ints)

  no_own : At f.coefficients (n + d) ≡ pos 0
  no_own = sym (made_first.same.loops d deep) ∙ bound_zeros symbols round l.first [] d made_first.form first_form zeros tt d (omega arith) deep

  value_other : (i : ℕ) → i ≢ n + d → At value.coefficients i ≡ At f.coefficients i
  value_other i h = value_at i ∙ ap (λ x. At f.coefficients i +ℤ z *ℤ x) (unit_other (n + d) i h) ∙ plain (At f.coefficients i)
    where
      plain : (x : ℤ) → x +ℤ z *ℤ pos 0 ≡ x
      plain x = ap (λ y. x +ℤ y) (*ℤ-zero z) ∙ none x
        where
          none : (x : ℤ) → x +ℤ pos 0 ≡ x
          none x = omega (arith, ints)

  value_own : At value.coefficients (n + d) ≡ z
  value_own = value_at (n + d) ∙ ap₂ (λ x y. x +ℤ z *ℤ y) no_own (unit_here (n + d)) ∙ plain z
    where
      plain : (z : ℤ) → pos 0 +ℤ z *ℤ pos 1 ≡ z
      plain z = omega (arith, ints)

  value_within : IsWithin n value
  value_within =
      let w = kept_within n f limits.0 in
      let v = kept_within n less limits.1 in
      let same = alike_not_zero (take n value.coefficients) (take n f.coefficients) (front_alike n value.coefficients f.coefficients (λ i m. value_other i (λ e. absurd (omega (arith, m, e))))) in
      let most = w.count in
      record {
        small = λ i. by w i (cases_eq i (n + d));
        constant = ap is_small (plain f.constant (neg_ℤ z)) ∙ v.constant;
        count = omega (arith, same, most);
      }
    where
      by : IsWithin n f → (i : ℕ) → (i ≡ n + d) ⊎ (i ≢ n + d) → is_small (At value.coefficients i) ≡ true
      by w i (inl e) = ap (λ m. is_small (At value.coefficients m)) e ∙ ap is_small value_own ∙ small
      by w i (inr h) = ap is_small (value_other i h) ∙ w.small i

      plain : (x y : ℤ) → (x +ℤ z *ℤ pos 0) +ℤ y ≡ x +ℤ y
      plain x y = ap (λ v. (x +ℤ v) +ℤ y) (*ℤ-zero z) ∙ none x y
        where
          none : (x y : ℤ) → (x +ℤ pos 0) +ℤ y ≡ x +ℤ y
          none x y = omega (arith, ints)

  made_value : IsMade n value_terms value
  made_value =
      sum_made n value_terms value (ap (λ b. b && true) small)
      (adds_alike n value_terms (sum less (multiple z (unit_form (n + d)))) value
      (two_add n z made_less.form (loop_form d) less (unit_form (n + d)) made_less.same (loop_is n d)) value_alike)
      value_within

  -- ---- the trip

  abbrev top_terms : List Multiple
  top_terms = with_counters round (affine_of d last_bound.form) ++ times (negsuc 0) made_less.form ∷ []

  made_top : IsMade n top_terms (multiple (sign_of z) top)
  made_top =
      sum_made n top_terms (multiple (sign_of z) top) (small_joined (with_counters round (affine_of d last_bound.form)) (times (negsuc 0) made_less.form ∷ []) last_bound.factors refl)
      (adds_alike n top_terms (sum g (multiple (negsuc 0) less)) (multiple (sign_of z) top)
      (joined_add n (with_counters round (affine_of d last_bound.form)) (times (negsuc 0) made_less.form ∷ []) g (multiple (negsuc 0) less) last_bound.adds (one_adds n (negsuc 0) made_less.form less made_less.same))
      (dividend_is z f g))
      (signed_within n (sign_of z) top (sign_is z) (kept_within n top limits.2))

  top_form : bound_form symbols round l.last (times (negsuc 0) made_less.form ∷ []) ≡ Some made_top.form
  unfolding bound_form
  top_form = ap (λ o. o >>= λ h. combination n (with_counters round (affine_of d h) ++ times (negsuc 0) made_less.form ∷ [])) last_bound.is ∙ made_top.is

  abbrev trip_terms : List Multiple
  trip_terms = times (sign_of z) made_top.form ∷ []

  made_trip : IsMade n trip_terms top
  made_trip =
      sum_made n trip_terms top (small_of_sign (sign_of z) (sign_is z))
      (adds_alike n trip_terms (multiple (sign_of z) (multiple (sign_of z) top)) top (one_adds n (sign_of z) made_top.form (multiple (sign_of z) top) made_top.same) (signed_twice (sign_of z) top (sign_is z)))
      (kept_within n top limits.2)

  top_past : (i : ℕ) → n + 7 ≤ i → At top.coefficients i ≡ pos 0
  top_past i m = by (int_le (pos 0) z)
    where
      none : (x y : Form) → At x.coefficients i ≡ pos 0 → At y.coefficients i ≡ pos 0 → (k : ℤ) → At (plus_constant (difference x y) k).coefficients i ≡ pos 0
      none x y a b k = plain_at (difference x y) k i ∙ sum_at x y (negsuc 0) i ∙ ap₂ (λ u v. u +ℤ negsuc 0 *ℤ v) a b

      by : (b : Bool) → At (cond b (plus_constant (difference g f) z) (plus_constant (difference f g) (neg_ℤ z))).coefficients i ≡ pos 0
      by true = none g f (last_bound.past i m) (first_bound.past i m) z
      by false = none f g (first_bound.past i m) (last_bound.past i m) (neg_ℤ z)

  -- ---- the last value

  abbrev whole_trip : Trip
  whole_trip = trip_of made_trip.form (pos (nat_abs z))

  has_end : HasSum (n + 1) (times (pos 1) made_first.form ∷ times z (trip_form n whole_trip) ∷ [])
  has_end = by (loops.is_constant made_trip.form) (is_constant_form top) refl (constants_agree n trip_terms made_trip.form top made_trip.is made_trip.same top_past (loops.is_constant made_trip.form) (is_constant_form top) refl refl)
    where
      ended : (c : Bool) → is_constant_form top ≡ c
          → cond c (keeps_limits n 0 (plus_constant f (z *ℤ folded z top))) (cond (nat_abs z == 1) (keeps_limits n 0 (sum f (multiple z top))) (keeps_limits n 1 f)) ≡ true
      ended c e = sym (ap (λ b. cond b (keeps_limits n 0 (plus_constant f (z *ℤ folded z top))) (cond (nat_abs z == 1) (keeps_limits n 0 (sum f (multiple z top))) (keeps_limits n 1 f))) e) ∙ limits.3

      folded_end : keeps_limits n 0 (plus_constant f (z *ℤ folded z top)) ≡ true → IsWithin n (sum f (multiple z (constant_form (int_div made_trip.form.constant (pos (nat_abs z))))))
      folded_end h =
          alike_within n (plus_constant f (z *ℤ folded z top)) (sum f (multiple z (constant_form (int_div made_trip.form.constant (pos (nat_abs z))))))
          (record { coefficients = λ i. refl; constant = ap (λ x. f.constant +ℤ z *ℤ int_div x (pos (nat_abs z))) (sym made_trip.same.constant) })
          (kept_within n (plus_constant f (z *ℤ folded z top)) h)

      undivided : (b : Bool) → cond b (keeps_limits n 0 (sum f (multiple z top))) (keeps_limits n 1 f) ≡ true
          → HasSum (n + 1) (times (pos 1) made_first.form ∷ times z (cond b made_trip.form (symbol_form n)) ∷ [])
      undivided true h =
          plain_end n z first_terms made_first.form f made_first.is made_first.same small made_trip.form top made_trip.same (sum_past n trip_terms made_trip.form made_trip.is n (omega arith)) (kept_within n (sum f (multiple z top)) h)
      undivided false h =
          let w = one_within n f h in
          divided_end n z first_terms made_first.form f made_first.is made_first.same small w.0 w.1

      by : (b c : Bool) → is_constant_form top ≡ c → b ≡ c
          → HasSum (n + 1) (times (pos 1) made_first.form ∷ times z (trip_form n (cond b (record { top = number_form (int_div made_trip.form.constant (pos (nat_abs z))); by = pos 1 }) (record { top = made_trip.form; by = pos (nat_abs z) }))) ∷ [])
      by true true e s =
          plain_end n z first_terms made_first.form f made_first.is made_first.same small (number_form (int_div made_trip.form.constant (pos (nat_abs z)))) (constant_form (int_div made_trip.form.constant (pos (nat_abs z))))
          (number_is n (int_div made_trip.form.constant (pos (nat_abs z)))) (no_symbol n) (folded_end (ended true e))
      by true false e s = let no : ⊥ = cc in absurd no
      by false true e s = let no : ⊥ = cc in absurd no
      by false false e s =
          subst (λ b. HasSum (n + 1) (times (pos 1) made_first.form ∷ times z (cond b made_trip.form (symbol_form n)) ∷ [])) (sym (is_one (nat_abs z)))
          (undivided (nat_abs z == 1) (ended false e))

  -- ---- the loop

  abbrev turns : NormalLoop
  turns = with_forms l made_first.form made_less.form made_value.form whole_trip has_end.form

  suitable : is_suitable l.step round ≡ true
  suitable =
      ap (λ b. b && (is_small l.step && nat_lt (length round) 7)) nonzero
      ∙ (ap (λ b. b && nat_lt (length round) 7) small ∙ (Decides-ltb (length round) 7).1 deep)

  bind : {A B : Type 0} (o : Option A) (x : A) (k : A → Option B) → o ≡ Some x → (o >>= k) ≡ k x
  bind o x k e = ap (λ q. q >>= k) e

  turns_is : normal_loop symbols round l ≡ Some turns
  unfolding normal_loop forms_of forms_by_first forms_by_trip
  turns_is =
      ap (λ b. cond b (forms_of symbols round l) None) suitable
      ∙ bind (bound_form symbols round l.first []) made_first.form (after_first symbols round l) first_form
      ∙ bind (plus_number n made_first.form (neg_ℤ z)) made_less.form (after_below symbols round l made_first.form) made_less.is
      ∙ bind (plus_multiple n made_less.form z (loop_form d)) made_value.form (after_value symbols round l made_first.form made_less.form) made_value.is
      ∙ bind (bound_form symbols round l.last (times (negsuc 0) made_less.form ∷ [])) made_top.form (after_top symbols round l made_first.form made_less.form made_value.form) top_form
      ∙ bind (trip_by n z made_top.form) whole_trip (after_trip symbols round l made_first.form made_less.form made_value.form) trip_is
      ∙ bind (plus_multiple (n + 1) made_first.form z (trip_form n whole_trip)) has_end.form (after_end symbols round l made_first.form made_less.form made_value.form whole_trip) has_end.is
    where
      trip_is : trip_by n z made_top.form ≡ Some whole_trip
      trip_is = bind (combination n (times (sign_of z) made_top.form ∷ [])) made_trip.form (λ q. Some (trip_of q (pos (nat_abs z)))) made_trip.is

  pub loop_turned : IsTurned symbols round l f
  loop_turned = record {
    turns = turns;
    is = turns_is;
    variable = refl;
    same = made_value.same;
    past = λ i m. value_other i (λ e. absurd (omega (arith, m, e, deep))) ∙ first_bound.past i m;
  }
