-- A combination is within the limits.
use mathlib.Core.Path.{ap₂}
use Rattle.std.proofs.Common.{◌≡◌, refl, sym, ap, ◌∙◌, ℕ, zero, suc, ◌+◌, ◌≤◌, ℤ, pos, ◌+ℤ◌, ◌*ℤ◌, Bool, true, false}
use Rattle.std.proofs.Common.{cond, ◌&&◌, List, [], ◌∷◌, ◌++◌, length, get_or, set, replicate, Option, Some, None}
use Rattle.std.proofs.Common.{arith}
use Rattle.std.specs.Prelude.{nat_lt}
use Rattle.std.specs.List.{list_all, AllByRecursion}
use Rattle.std.specs.Ordering.{int_eq}
use Rattle.std.proofs.Math.IntN.{*ℤ-zero}
use Rattle.std.proofs.Math.Numerals.{add-one}
use Rattle.linear_forms.specs.Linear.{is_small, all_small, not_zero}
use Rattle.linear_forms.specs.Merging.{all_pushed}
use Rattle.linear_forms.specs.Pushing.{small_or_none, pushed, then_pushed}
use Rattle.linear_forms.specs.Places.{padded, terms_from}
use Rattle.linear_forms.specs.declared.terms.Terms.{Terms}
use Rattle.linear_forms.proofs.Merges.{Outcome, pushes, then_same}
use Rattle.linear_forms.proofs.Sizes.{both}
use Rattle.linear_forms.proofs.Sums.{small_is}
use Rattle.subscripts.specs.declared.affine.Affine.{Affine}
use Rattle.last_values.specs.declared.normal_forms.combinations.Multiple.{Multiple}
use Rattle.last_values.specs.declared.normal_forms.places.Place.TheVariants as place
use Rattle.last_values.specs.normal_forms.Combinations.{number_of_place, combined_at, with_number, all_within, seven, no_terms, with_symbol_terms}
use Rattle.last_values.specs.normal_forms.Combinations.{form_with, has_small_factor, combination, number_form, zero_loops}
use Rattle.last_values.specs.normal_forms.Numbers.{values_from}
use Rattle.pass_laws.proofs.NormalValues.Affine.{IsTidy}
use Rattle.pass_laws.proofs.NormalValues.Points.{count_of}

-- ---- loops

all_within_small : (zs ys : List ℤ) → all_within zs ≡ Some ys → (ys ≡ zs) × (all_small zs ≡ true)
all_within_small [] ys h = let same : ys ≡ [] = cc in (same, refl)
all_within_small (z ∷ zs) ys h = by (λ vs g. all_within_small zs vs g) (small_or_none z) refl (all_within zs) refl h
  where
    by : ((vs : List ℤ) → all_within zs ≡ Some vs → (vs ≡ zs) × (all_small zs ≡ true))
        → (o : Option ℤ) → small_or_none z ≡ o → (p : Option (List ℤ)) → all_within zs ≡ p → with_number o p ≡ Some ys → (ys ≡ z ∷ zs) × ((is_small z && all_small zs) ≡ true)
    by more None e p g k = absurd cc
    by more (Some v) e None g k = absurd cc
    by more (Some v) e (Some vs) g k =
        let same : ys ≡ v ∷ vs = cc in
        let one = small_is z v (sym e) in
        let rest = more vs g in
        (same ∙ ap₂ (λ a l. a ∷ l) one.0 rest.0, ap₂ (λ a b. a && b) (ap is_small (sym one.0) ∙ one.1) rest.1)

small_at : (zs : List ℤ) (k : ℕ) → all_small zs ≡ true → is_small (get_or zs k (pos 0)) ≡ true
small_at [] k h = refl
small_at (z ∷ zs) zero h = (both (is_small z) (all_small zs) h).0
small_at (z ∷ zs) (suc k) h = small_at zs k (both (is_small z) (all_small zs) h).1

pub seven_zero : (f : ℕ → ℤ) (d : ℕ) → ((k : ℕ) → d ≤ k → f k ≡ pos 0) → (k : ℕ) → d ≤ k → get_or (seven f) k (pos 0) ≡ pos 0
seven_zero f d h zero l = h 0 l
seven_zero f d h (suc zero) l = h 1 l
seven_zero f d h (suc (suc zero)) l = h 2 l
seven_zero f d h (suc (suc (suc zero))) l = h 3 l
seven_zero f d h (suc (suc (suc (suc zero)))) l = h 4 l
seven_zero f d h (suc (suc (suc (suc (suc zero))))) l = h 5 l
seven_zero f d h (suc (suc (suc (suc (suc (suc zero)))))) l = h 6 l
seven_zero f d h (suc (suc (suc (suc (suc (suc (suc k))))))) l = refl

-- ---- symbols

abbrev more_room : ℕ → ℤ → Terms → Option Terms
more_room j z t = cond (is_small z && nat_lt t.used 8) (Some (record { at = set t.at t.used (j, z); used = t.used + 1 })) None

symbols_pushed : (f : ℕ → ℤ) (n j : ℕ) (t : Terms) → with_symbol_terms f n j t ≡ all_pushed (terms_from j (values_from n j f)) t
symbols_pushed f zero j t = refl
symbols_pushed f (suc n) j t =
    by (λ u. symbols_pushed f n (j + 1) u ∙ ap (λ k. all_pushed (terms_from k (values_from n (j + 1) f)) u) (add-one j)) (int_eq (f j) (pos 0)) refl
  where
    by : ((u : Terms) → with_symbol_terms f n (j + 1) u ≡ all_pushed (terms_from (suc j) (values_from n (j + 1) f)) u) → (b : Bool) → int_eq (f j) (pos 0) ≡ b
        → then_pushed (pushed j (f j) t) (with_symbol_terms f n (j + 1)) ≡ all_pushed (cond b (terms_from (suc j) (values_from n (j + 1) f)) ((j, f j) ∷ terms_from (suc j) (values_from n (j + 1) f))) t
    by later true e = ap (λ c. then_pushed (cond c (Some t) (more_room j (f j) t)) (with_symbol_terms f n (j + 1))) e ∙ later t
    by later false e = then_same (pushed j (f j) t) (with_symbol_terms f n (j + 1)) (all_pushed (terms_from (suc j) (values_from n (j + 1) f))) later

record Pushed (es : List ℤ) (t : Terms) : Type 0 where
  at : t.at ≡ padded (terms_from 0 es)
  small : all_small es ≡ true
  few : not_zero es ≤ 8

symbols_are : (f : ℕ → ℤ) (n : ℕ) (t : Terms) → with_symbol_terms f n 0 no_terms ≡ Some t → Pushed (values_from n 0 f) t
symbols_are f n t h =
    let es : List ℤ = values_from n 0 f in
    by (all_pushed (terms_from 0 es) no_terms) (sym (symbols_pushed f n 0 no_terms) ∙ h) (pushes 0 es [] no_terms (record { at = refl; used = refl }) (omega arith))
  where
    by : (o : Option Terms) → o ≡ Some t → Outcome 0 (values_from n 0 f) [] o → Pushed (values_from n 0 f) t
    by None e g = absurd cc
    by (Some u) e g =
        let same : u ≡ t = cc in
        let most = g.2 in
        record { at = ap (λ (v : Terms). v.at) (sym same) ∙ g.0.at; small = g.1; few = omega (arith, most) }

-- ---- a combination

module _ (d n : ℕ) (ts : List Multiple) (a : Affine) (none : (k : ℕ) → d ≤ k → combined_at ts (place.Loop k) ≡ pos 0) where
  abbrev loop_sum : ℕ → ℤ
  loop_sum k = combined_at ts (place.Loop k)

  abbrev symbol_sum : ℕ → ℤ
  symbol_sum j = combined_at ts (place.Symbol j)

  parted : (ls : Option (List ℤ)) → all_within (seven loop_sum) ≡ ls → (o : Option Terms) → with_symbol_terms symbol_sum n 0 no_terms ≡ o
      → (z : Option ℤ) → small_or_none (combined_at ts place.Constant) ≡ z → form_with ls o z ≡ Some a → IsTidy d n a
  parted None e o f z g h = absurd cc
  parted (Some ls) e None f z g h = absurd cc
  parted (Some ls) e (Some t) f None g h = absurd cc
  parted (Some ls) e (Some t) f (Some z) g h =
      let same : a ≡ record { loops = ls; syms = t.at; constant = z } = cc in
      let loops = all_within_small (seven loop_sum) ls e in
      let symbols = symbols_are symbol_sum n t f in
      let constant = small_is (combined_at ts place.Constant) z (sym g) in
      let loops_are : a.loops ≡ seven loop_sum = ap (λ (b : Affine). b.loops) same ∙ loops.0 in
      record {
        none_behind = λ k m. ap (λ l. get_or l k (pos 0)) loops_are ∙ seven_zero loop_sum d none k m;
        loops_small = λ k. ap (λ l. is_small (get_or l k (pos 0))) loops_are ∙ small_at (seven loop_sum) k loops.1;
        symbols = values_from n 0 symbol_sum;
        count = count_of n 0 symbol_sum;
        syms = ap (λ (b : Affine). b.syms) same ∙ symbols.at;
        symbols_small = symbols.small;
        few = symbols.few;
        constant_small = ap (λ (b : Affine). is_small b.constant) same ∙ constant.1;
      }

  pub combination_tidy : combination n ts ≡ Some a → IsTidy d n a
  unfolding combination
  combination_tidy h = by (list_all has_small_factor ts) h
    where
      by : (b : Bool) → cond b (form_with (all_within (seven loop_sum)) (with_symbol_terms symbol_sum n 0 no_terms) (small_or_none (combined_at ts place.Constant))) None ≡ Some a → IsTidy d n a
      by true g = parted (all_within (seven loop_sum)) refl (with_symbol_terms symbol_sum n 0 no_terms) refl (small_or_none (combined_at ts place.Constant)) refl g
      by false g = absurd cc

-- ---- loops that don't stand in a sum

-- the k-th loop stands in none of these forms
abbrev pub AreWithout : ℕ → List Multiple → Type 0
AreWithout k ts = AllByRecursion (λ (t : Multiple). number_of_place t.form (place.Loop k) ≡ pos 0) ts

pub without_sum : (k : ℕ) (ts : List Multiple) → AreWithout k ts → combined_at ts (place.Loop k) ≡ pos 0
without_sum k [] h = refl
without_sum k (t ∷ ts) h = ap₂ (λ x y. t.times *ℤ x +ℤ y) h.0 (without_sum k ts h.1) ∙ ap (λ z. z +ℤ pos 0) (*ℤ-zero t.times)

pub without_both : (k : ℕ) (ts us : List Multiple) → AreWithout k ts → AreWithout k us → AreWithout k (ts ++ us)
without_both k [] us h g = g
without_both k (t ∷ ts) us h g = (h.0, without_both k ts us h.1 g)

-- ---- numbers as forms

zeros : (n o : ℕ) → terms_from o (replicate n (pos 0)) ≡ []
zeros zero o = refl
zeros (suc n) o = zeros n (suc o)

pub no_loop : (k : ℕ) → get_or zero_loops k (pos 0) ≡ pos 0
no_loop zero = refl
no_loop (suc zero) = refl
no_loop (suc (suc zero)) = refl
no_loop (suc (suc (suc zero))) = refl
no_loop (suc (suc (suc (suc zero)))) = refl
no_loop (suc (suc (suc (suc (suc zero))))) = refl
no_loop (suc (suc (suc (suc (suc (suc zero)))))) = refl
no_loop (suc (suc (suc (suc (suc (suc (suc k))))))) = refl

pub number_tidy : (d n : ℕ) (z : ℤ) → is_small z ≡ true → IsTidy d n (number_form z)
number_tidy d n z h = record {
  none_behind = λ k m. no_loop k;
  loops_small = λ k. ap is_small (no_loop k);
  symbols = replicate n (pos 0);
  count = long n;
  syms = sym (ap padded (zeros n 0));
  symbols_small = small n;
  few = few n;
  constant_small = h;
}
  where
    long : (n : ℕ) → length (replicate n (pos 0)) ≡ n
    long zero = refl
    long (suc n) = ap suc (long n)

    small : (n : ℕ) → all_small (replicate n (pos 0)) ≡ true
    small zero = refl
    small (suc n) = small n

    few : (n : ℕ) → not_zero (replicate n (pos 0)) ≤ 8
    few zero = omega arith
    few (suc n) = few n
