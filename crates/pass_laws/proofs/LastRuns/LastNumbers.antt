-- The numbers of a loop's forms in the last turn of each loop round it.
use mathlib.Core.Path.{ap₂}
use Rattle.std.proofs.Common.{◌≡◌, refl, sym, ap, ◌∙◌, ◌⊎◌, inl, inr, ℕ, zero, suc, ◌+◌, ◌-◌, ◌≤◌, ◌<◌, ℤ, pos, negsuc}
use Rattle.std.proofs.Common.{◌+ℤ◌, ◌*ℤ◌, neg_ℤ, Bool, true, false, cond, List, [], ◌∷◌, ◌++◌, get_or, length, Some}
use Rattle.std.proofs.Common.{arith}
use Rattle.std.specs.Prelude.{◌==◌, int_div}
use Rattle.std.specs.List.{list_all}
use Rattle.std.specs.Ordering.{int_eq}
use Rattle.std.proofs.lemmas.Bool.{cases_lt, eqb-true, eq-eqb}
use Rattle.std.proofs.lemmas.Bool.Decides.{Decides-int_eq}
use Rattle.std.proofs.lemmas.Int.{ints}
use Rattle.std.proofs.lemmas.List.{get_or_past}
use Rattle.std.proofs.Math.IntN.{*ℤ-zero, zero-*ℤ}
use Rattle.std.proofs.Math.Nat.{div-one}
use Rattle.linear_forms.proofs.Sizes.{both}
use Rattle.nest.specs.declared.parts.Trip.{Trip}
use Rattle.last_values.specs.normal_forms.Combinations.{number_of_place, coefficient_in, number_form, times, without_loops}
use Rattle.last_values.specs.normal_forms.LastValues.{trips_from, with_trips}
use Rattle.last_values.specs.normal_forms.NormalLoops.{has_no_loops, has_no_symbols, is_constant, is_undivided, is_unused, is_zero}
use Rattle.last_values.specs.normal_forms.NormalLoops.{plus_multiple, symbol_form, trip_form, trip_of}
use Rattle.last_values.specs.normal_forms.Numbers.{number_of_form, products, sum_of_numbers, trip_number, values_from}
use Rattle.last_values.specs.declared.normal_forms.combinations.Multiple.{Multiple}
use Rattle.last_values.specs.declared.normal_forms.loops.NormalLoop.{NormalLoop}
use Rattle.last_values.specs.declared.normal_forms.places.Place.TheVariants as place
use Rattle.last_values.proofs.NormalForms.Numbers.{Zeros, combination_has_number, none_among_zeros}
use Rattle.subscripts.specs.declared.affine.Affine.{Affine}
use Rattle.pass_laws.proofs.LastRuns.Forms.{At, IsKnownForm, symbol_at}
use Rattle.pass_laws.proofs.LastRuns.Pieces.{none_yet}

by_one : (z : ℤ) → int_div z (pos 1) ≡ z
by_one (pos n) = ap pos (div-one n)
by_one (negsuc n) = ap (λ k. neg_ℤ (pos k)) (div-one (suc n))

-- ---- products

values_alike : (n j : ℕ) (c v w : ℕ → ℤ) → ((i : ℕ) → i < j + n → v i ≡ w i) → products n j c v ≡ products n j c w
values_alike zero j c v w h = refl
values_alike (suc n) j c v w h = ap₂ (λ p q. c j *ℤ p +ℤ q) (h j (omega arith)) (values_alike n (j + 1) c v w (λ i k. h i (omega (arith, k))))

products_parted : (m n j : ℕ) (c v : ℕ → ℤ) → products (m + n) j c v ≡ products m j c v +ℤ products n (j + m) c v
products_parted zero n j c v =
    ap (λ k. products k j c v) (let e : 0 + n ≡ n = omega arith in e) ∙ (ap (λ k. products n k c v) (let e : j ≡ j + 0 = omega arith in e) ∙ nothing (products n (j + 0) c v))
  where
    nothing : (z : ℤ) → z ≡ pos 0 +ℤ z
    nothing z = omega (arith, ints)
products_parted (suc m) n j c v =
    ap (λ k. products k j c v) (let e : suc m + n ≡ suc (m + n) = omega arith in e)
    ∙ (ap (λ z. c j *ℤ v j +ℤ z) (products_parted m n (j + 1) c v ∙ ap (λ k. products m (j + 1) c v +ℤ products n k c v) (let e : (j + 1) + m ≡ j + suc m = omega arith in e))
    ∙ grouped (c j *ℤ v j) (products m (j + 1) c v) (products n (j + suc m) c v))
  where
    grouped : (p q r : ℤ) → p +ℤ (q +ℤ r) ≡ (p +ℤ q) +ℤ r
    grouped p q r = omega (arith, ints)

no_coefficients : (n j : ℕ) (c v : ℕ → ℤ) → ((i : ℕ) → j ≤ i → i < j + n → c i ≡ pos 0) → products n j c v ≡ pos 0
no_coefficients zero j c v h = refl
no_coefficients (suc n) j c v h =
    ap₂ (λ p q. p *ℤ v j +ℤ q) (h j (omega arith) (omega arith)) (no_coefficients n (j + 1) c v (λ i k l. h i (omega (arith, k)) (omega (arith, l)))) ∙ ap (λ z. z +ℤ pos 0) (zero-*ℤ (v j))

no_values : (n j : ℕ) (c v : ℕ → ℤ) → ((i : ℕ) → j ≤ i → i < j + n → v i ≡ pos 0) → products n j c v ≡ pos 0
no_values zero j c v h = refl
no_values (suc n) j c v h =
    ap₂ (λ p q. c j *ℤ p +ℤ q) (h j (omega arith) (omega arith)) (no_values n (j + 1) c v (λ i k l. h i (omega (arith, k)) (omega (arith, l)))) ∙ ap (λ z. z +ℤ pos 0) (*ℤ-zero (c j))

-- ---- places behind the symbols

none_past : (n : ℕ) (a : Affine) → IsKnownForm n a → (j : ℕ) → n ≤ j → coefficient_in a.syms j ≡ pos 0
none_past n a k j l = let few = k.few in symbol_at n a k j ∙ get_or_past k.symbols j (pos 0) (omega (arith, l, few))

-- the symbols of a form, among more places
symbols_stay : (n m : ℕ) (a : Affine) → IsKnownForm n a → (v w : ℕ → ℤ) → ((j : ℕ) → j < n → w j ≡ v j)
    → products (n + m) 0 (λ j. coefficient_in a.syms j) w ≡ products n 0 (λ j. coefficient_in a.syms j) v
symbols_stay n m a k v w h =
    products_parted n m 0 (λ j. coefficient_in a.syms j) w
    ∙ (ap₂ (λ p q. p +ℤ q) (values_alike n 0 (λ j. coefficient_in a.syms j) w v (λ i l. h i (omega (arith, l)))) (no_coefficients m (0 + n) (λ j. coefficient_in a.syms j) w (λ i l p. none_past n a k i (omega (arith, l))))
    ∙ alone (products n 0 (λ j. coefficient_in a.syms j) v))
  where
    alone : (z : ℤ) → z +ℤ pos 0 ≡ z
    alone z = omega (arith, ints)

pub number_stays : (n m : ℕ) (a : Affine) → IsKnownForm n a → (its v w : ℕ → ℤ) → ((j : ℕ) → j < n → w j ≡ v j) → number_of_form (n + m) its w a ≡ number_of_form n its v a
number_stays n m a k its v w h = ap (λ z. products 7 0 (λ i. get_or a.loops i (pos 0)) its +ℤ (z +ℤ a.constant)) (symbols_stay n m a k v w h)

pub number_alike : (n : ℕ) (a : Affine) (its v w : ℕ → ℤ) → ((j : ℕ) → j < n → w j ≡ v j) → number_of_form n its w a ≡ number_of_form n its v a
number_alike n a its v w h =
    ap (λ z. products 7 0 (λ i. get_or a.loops i (pos 0)) its +ℤ (z +ℤ a.constant)) (values_alike n 0 (λ j. coefficient_in a.syms j) w v (λ i l. h i (omega (arith, l))))

-- ---- simple forms

zero_at : (z : ℤ) (k : ℕ) → number_of_place (number_form z) (place.Loop k) ≡ pos 0
zero_at z zero = refl
zero_at z (suc zero) = refl
zero_at z (suc (suc zero)) = refl
zero_at z (suc (suc (suc zero))) = refl
zero_at z (suc (suc (suc (suc zero)))) = refl
zero_at z (suc (suc (suc (suc (suc zero))))) = refl
zero_at z (suc (suc (suc (suc (suc (suc zero)))))) = refl
zero_at z (suc (suc (suc (suc (suc (suc (suc k))))))) = refl

number_of_number : (n : ℕ) (its values : ℕ → ℤ) (z : ℤ) → number_of_form n its values (number_form z) ≡ z
number_of_number n its values z =
    ap₂ (λ p q. p +ℤ (q +ℤ z)) (no_coefficients 7 0 (λ k. number_of_place (number_form z) (place.Loop k)) its (λ k l m. zero_at z k))
    (no_coefficients n 0 (λ j. coefficient_in (number_form z).syms j) values (λ j l m. none_among_zeros 8 j))
    ∙ zeros z
  where
    zeros : (z : ℤ) → pos 0 +ℤ (pos 0 +ℤ z) ≡ z
    zeros z = omega (arith, ints)

-- 1 for one place
single : (n j p : ℕ) (v : ℕ → ℤ) → j ≤ p → p < j + n → products n j (λ i. coefficient_in (symbol_form p).syms i) v ≡ v p
single zero j p v l m = absurd (omega (arith, l, m))
single (suc n) j p v l m = by (λ k. single n (j + 1) p v (omega (arith, k)) (omega (arith, m))) (cases_lt j p)
  where
    later : (i : ℕ) → p < i → coefficient_in (symbol_form p).syms i ≡ pos 0
    later i k = ap (λ b. cond b (pos 1) (coefficient_in (Zeros 7) i)) (other p i k) ∙ none_among_zeros 7 i
      where
        other : (p i : ℕ) → p < i → (p == i) ≡ false
        other p i k = by_test (p == i) refl
          where
            by_test : (b : Bool) → (p == i) ≡ b → b ≡ false
            by_test true e = let same = eqb-true p i e in absurd (omega (arith, same, k))
            by_test false e = refl

    before : (i : ℕ) → i < p → coefficient_in (symbol_form p).syms i ≡ pos 0
    before i k = ap (λ b. cond b (pos 1) (coefficient_in (Zeros 7) i)) (other p i k) ∙ none_among_zeros 7 i
      where
        other : (p i : ℕ) → i < p → (p == i) ≡ false
        other p i k = by_test (p == i) refl
          where
            by_test : (b : Bool) → (p == i) ≡ b → b ≡ false
            by_test true e = let same = eqb-true p i e in absurd (omega (arith, same, k))
            by_test false e = refl

    here : (i : ℕ) → p ≡ i → coefficient_in (symbol_form p).syms i ≡ pos 1
    here i e = ap (λ b. cond b (pos 1) (coefficient_in (Zeros 7) i)) (eq-eqb p i e)

    zero_and : (x z : ℤ) → pos 0 +ℤ z ≡ z
    zero_and x z = omega (arith, ints)

    one_and : (z : ℤ) → pos 1 *ℤ z +ℤ pos 0 ≡ z
    one_and z = omega (arith, ints)

    by : (j < p → products n (j + 1) (λ i. coefficient_in (symbol_form p).syms i) v ≡ v p) → (j < p) ⊎ (p ≤ j) → products (suc n) j (λ i. coefficient_in (symbol_form p).syms i) v ≡ v p
    by more (inl k) =
        ap₂ (λ x y. x *ℤ v j +ℤ y) (before j k) (more k)
        ∙ (ap (λ z. z +ℤ v p) (zero-*ℤ (v j)) ∙ zero_and (v j) (v p))
    by more (inr k) =
        let same : p ≡ j = omega (arith, k, l) in
        ap₂ (λ x y. x *ℤ v j +ℤ y) (here j same) (no_coefficients n (j + 1) (λ i. coefficient_in (symbol_form p).syms i) v (λ i a b. later i (omega (arith, a, same))))
        ∙ (one_and (v j) ∙ ap v (sym same))

number_of_symbol : (n p : ℕ) (its v : ℕ → ℤ) → p < n → number_of_form n its v (symbol_form p) ≡ v p
number_of_symbol n p its v l =
    ap₂ (λ x y. x +ℤ (y +ℤ pos 0)) (no_coefficients 7 0 (λ k. number_of_place (number_form (pos 0)) (place.Loop k)) its (λ k a b. zero_at (pos 0) k)) (single n 0 p v (omega arith) (omega (arith, l)))
    ∙ alone (v p)
  where
    alone : (z : ℤ) → pos 0 +ℤ (z +ℤ pos 0) ≡ z
    alone z = omega (arith, ints)

-- a trip as a form
pub trip_form_number : (n p : ℕ) (its v : ℕ → ℤ) (t : Trip) (z : ℤ) → p < n → int_div (number_of_form n its v t.top) t.by ≡ z → v p ≡ z → number_of_form n its v (trip_form p t) ≡ z
trip_form_number n p its v t z l h k = by (is_undivided t) refl
  where
    by : (b : Bool) → int_eq t.by (pos 1) ≡ b → number_of_form n its v (cond b t.top (symbol_form p)) ≡ z
    by true e = sym (by_one (number_of_form n its v t.top)) ∙ (ap (int_div (number_of_form n its v t.top)) (sym ((Decides-int_eq t.by (pos 1)).0 e)) ∙ h)
    by false e = number_of_symbol n p its v l ∙ k

-- ---- folded trips

loops_zero : (zs : List ℤ) (k : ℕ) → list_all is_zero zs ≡ true → get_or zs k (pos 0) ≡ pos 0
loops_zero [] k h = refl
loops_zero (z ∷ zs) zero h = (Decides-int_eq z (pos 0)).0 (both (is_zero z) (list_all is_zero zs) h).0
loops_zero (z ∷ zs) (suc k) h = loops_zero zs k (both (is_zero z) (list_all is_zero zs) h).1

symbols_zero : (ts : List (ℕ × ℤ)) (j : ℕ) → list_all is_unused ts ≡ true → coefficient_in ts j ≡ pos 0
symbols_zero [] j h = refl
symbols_zero (t ∷ ts) j h = by (t.0 == j) ((Decides-int_eq t.1 (pos 0)).0 (both (is_unused t) (list_all is_unused ts) h).0) (symbols_zero ts j (both (is_unused t) (list_all is_unused ts) h).1)
  where
    by : (b : Bool) → t.1 ≡ pos 0 → coefficient_in ts j ≡ pos 0 → cond b t.1 (coefficient_in ts j) ≡ pos 0
    by true e g = e
    by false e g = g

constant_number : (n : ℕ) (its v : ℕ → ℤ) (a : Affine) → is_constant a ≡ true → number_of_form n its v a ≡ a.constant
constant_number n its v a h =
    let p = both (has_no_loops a) (has_no_symbols a) h in
    ap₂ (λ x y. x +ℤ (y +ℤ a.constant)) (no_coefficients 7 0 (λ k. number_of_place a (place.Loop k)) its (λ k l m. loops_zero a.loops k p.0)) (no_coefficients n 0 (λ j. number_of_place a (place.Symbol j)) v (λ j l m. symbols_zero a.syms j p.1))
    ∙ zeros a.constant
  where
    zeros : (z : ℤ) → pos 0 +ℤ (pos 0 +ℤ z) ≡ z
    zeros z = omega (arith, ints)

pub known_number : (n : ℕ) (its v : ℕ → ℤ) (t : Trip) → is_undivided t ≡ true → is_constant t.top ≡ true → trip_number n its v t ≡ t.top.constant
known_number n its v t e h = ap (int_div (number_of_form n its v t.top)) ((Decides-int_eq t.by (pos 1)).0 e) ∙ (by_one (number_of_form n its v t.top) ∙ constant_number n its v t.top h)

pub folded : (n : ℕ) (its v : ℕ → ℤ) (a : Affine) (d : ℤ) → trip_number n its v (trip_of a d) ≡ int_div (number_of_form n its v a) d
folded n its v a d = by (is_constant a) refl
  where
    by : (b : Bool) → is_constant a ≡ b → trip_number n its v (cond b (record { top = number_form (int_div a.constant d); by = pos 1 }) (record { top = a; by = d })) ≡ int_div (number_of_form n its v a) d
    by true e = by_one (number_of_form n its v (number_form (int_div a.constant d))) ∙ (number_of_number n its v (int_div a.constant d) ∙ ap (λ z. int_div z d) (sym (constant_number n its v a e)))
    by false e = refl

-- ---- a form with trips in the place of counters

sum_joined : (n : ℕ) (its v : ℕ → ℤ) (ts us : List Multiple) → sum_of_numbers n its v (ts ++ us) ≡ sum_of_numbers n its v ts +ℤ sum_of_numbers n its v us
sum_joined n its v [] us = nothing (sum_of_numbers n its v us)
  where
    nothing : (z : ℤ) → z ≡ pos 0 +ℤ z
    nothing z = omega (arith, ints)
sum_joined n its v (t ∷ ts) us = ap (λ z. t.times *ℤ number_of_form n its v t.form +ℤ z) (sum_joined n its v ts us) ∙ grouped (t.times *ℤ number_of_form n its v t.form) (sum_of_numbers n its v ts) (sum_of_numbers n its v us)
  where
    grouped : (p q r : ℤ) → p +ℤ (q +ℤ r) ≡ (p +ℤ q) +ℤ r
    grouped p q r = omega (arith, ints)

-- n symbols, and seven divided trips behind them
module _ (n : ℕ) (v w last : ℕ → ℤ) (symbols : (j : ℕ) → j < n → w j ≡ v j) where
  -- the trips as forms have these numbers
  abbrev pub TripsAre : ℕ → List NormalLoop → Type 0
  TripsAre k [] = Unit {0}
  TripsAre k (r ∷ rs) = (number_of_form (n + 7) none_yet w (trip_form (n + k) r.trip) ≡ last k) × TripsAre (k + 1) rs

  trips_number : (a : Affine) (rs : List NormalLoop) (k : ℕ) → TripsAre k rs → sum_of_numbers (n + 7) none_yet w (trips_from n k a rs) ≡ products (length rs) k (λ i. number_of_place a (place.Loop i)) last
  trips_number a [] k h = refl
  trips_number a (r ∷ rs) k h = ap₂ (λ x y. number_of_place a (place.Loop k) *ℤ x +ℤ y) h.0 (trips_number a rs (k + 1) h.1)

  without_number : (a : Affine) → IsKnownForm n a → number_of_form (n + 7) none_yet w (without_loops a) ≡ products n 0 (λ j. coefficient_in a.syms j) v +ℤ a.constant
  without_number a k =
      ap₂ (λ x y. x +ℤ (y +ℤ a.constant)) (no_values 7 0 (λ i. number_of_place (without_loops a) (place.Loop i)) none_yet (λ i l m. refl)) (symbols_stay n 7 a k v w symbols)
      ∙ nothing (products n 0 (λ j. coefficient_in a.syms j) v +ℤ a.constant)
    where
      nothing : (z : ℤ) → pos 0 +ℤ z ≡ z
      nothing z = omega (arith, ints)

  pub with_trips_number : (a : Affine) → IsKnownForm n a → (rs : List NormalLoop) → length rs ≤ 7 → TripsAre 0 rs → ((k : ℕ) → length rs ≤ k → last k ≡ pos 0)
      → sum_of_numbers (n + 7) none_yet w (with_trips n rs a) ≡ number_of_form n last v a
  with_trips_number a k rs few h past =
      sum_joined (n + 7) none_yet w (trips_from n 0 a rs) (times (pos 1) (without_loops a) ∷ [])
      ∙ (ap₂ (λ x y. x +ℤ (pos 1 *ℤ y +ℤ pos 0)) (trips_number a rs 0 h ∙ whole) (without_number a k)
      ∙ simple (products 7 0 (λ i. number_of_place a (place.Loop i)) last) (products n 0 (λ j. coefficient_in a.syms j) v) a.constant)
    where
      simple : (x y z : ℤ) → x +ℤ (pos 1 *ℤ (y +ℤ z) +ℤ pos 0) ≡ x +ℤ (y +ℤ z)
      simple x y z = omega (arith, ints)

      nothing : (z : ℤ) → z ≡ z +ℤ pos 0
      nothing z = omega (arith, ints)

      whole : products (length rs) 0 (λ i. number_of_place a (place.Loop i)) last ≡ products 7 0 (λ i. number_of_place a (place.Loop i)) last
      whole =
          nothing (products (length rs) 0 (λ i. number_of_place a (place.Loop i)) last)
          ∙ (ap (λ z. products (length rs) 0 (λ i. number_of_place a (place.Loop i)) last +ℤ z) (sym (no_values (7 - length rs) (0 + length rs) (λ i. number_of_place a (place.Loop i)) last (λ i l m. past i (omega (arith, l)))))
          ∙ (sym (products_parted (length rs) (7 - length rs) 0 (λ i. number_of_place a (place.Loop i)) last) ∙ ap (λ m. products m 0 (λ i. number_of_place a (place.Loop i)) last) (let e : length rs + (7 - length rs) ≡ 7 = omega (arith, few) in e)))

-- a sum of two
pub plus_number : (n : ℕ) (its v : ℕ → ℤ) (a b c : Affine) (z : ℤ) → plus_multiple n a z b ≡ Some c → number_of_form n its v c ≡ number_of_form n its v a +ℤ z *ℤ number_of_form n its v b
plus_number n its v a b c z h = combination_has_number n (times (pos 1) a ∷ times z b ∷ []) c its v h ∙ simple (number_of_form n its v a) (z *ℤ number_of_form n its v b)
  where
    simple : (p q : ℤ) → pos 1 *ℤ p +ℤ (q +ℤ pos 0) ≡ p +ℤ q
    simple p q = omega (arith, ints)

-- ---- values behind those of the symbols

pub front_values : (n j : ℕ) (v : ℕ → ℤ) (ts : List ℤ) (i : ℕ) → i < n → At (values_from n j v ++ ts) i ≡ v (j + i)
front_values zero j v ts i h = absurd (omega (arith, h))
front_values (suc n) j v ts zero h = ap v (let e : j ≡ j + 0 = omega arith in e)
front_values (suc n) j v ts (suc i) h = front_values n (j + 1) v ts i (omega (arith, h)) ∙ ap v (let e : (j + 1) + i ≡ j + suc i = omega arith in e)

pub behind_values : (n j : ℕ) (v : ℕ → ℤ) (ts : List ℤ) (k i : ℕ) → i ≡ n + k → At (values_from n j v ++ ts) i ≡ At ts k
behind_values zero j v ts k i h = ap (At ts) (let e : i ≡ k = omega (arith, h) in e)
behind_values (suc n) j v ts k zero h = absurd (omega (arith, h))
behind_values (suc n) j v ts k (suc i) h = behind_values n (j + 1) v ts k i (omega (arith, h))
