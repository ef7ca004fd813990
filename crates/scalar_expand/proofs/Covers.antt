-- Extents are no less than trips.
use mathlib.Core.Path.{ap₂}
use mathlib.Core.List.{reverse_aux}
use Rattle.std.proofs.lemmas.List.{append-nil}
use Rattle.std.proofs.Common.{append_assoc, ◌≡◌, refl, sym, ap, ◌∙◌, subst, ℕ, zero, suc, ◌+◌, ◌*◌, ◌/◌, ◌≤◌, ◌<◌, ℤ, pos, negsuc, ◌+ℤ◌, ◌*ℤ◌, ◌≤ℤ◌, Bool, true, false, cond, ◌&&◌, List, [], ◌∷◌, ◌++◌, map, reverse, length, get_or, Option, Some, None, arith}
use Rattle.std.specs.Prelude.{int_div, int_le, int_lt, int_rem, nat_le, nat_lt, neg_ℤ, unsigned_abs, ◌==◌}
use Rattle.std.specs.List.{list_all}
use Rattle.std.proofs.lemmas.Bool.{le-leb, leb-true, lt-ltb, ltb-true, ltb-false, ne_eqb}
use Rattle.std.proofs.lemmas.Bool.Decides.{Decides-int_eq}
use Rattle.std.proofs.lemmas.Int.{ints, quot-rem, rem_below}
use Rattle.std.proofs.lemmas.Nat.{div-add-mod', le-div}
use Rattle.std.proofs.Math.IntN.{zero-*ℤ, *ℤ-zero}
use Rattle.tree.specs.Limits.{array_dimensions}
use Rattle.linear_forms.proofs.Ring.{spread, spread_left}
use Rattle.linear_forms.proofs.Sizes.{both}
use Rattle.meaning.specs.Store.{is_within}
use Rattle.nest.specs.Plain.{Loop}
use Rattle.nest.specs.Bodies.{nest_statements}
use Rattle.nest.specs.declared.parts.Trip.{Trip}
use Rattle.subscripts.specs.declared.affine.Affine.{Affine}
use Rattle.last_values.specs.declared.normal_forms.combinations.Multiple.{Multiple}
use Rattle.last_values.specs.declared.normal_forms.places.Place.TheVariants as place
use Rattle.last_values.specs.normal_forms.Steps.{◌>>=◌}
use Rattle.last_values.specs.normal_forms.Combinations.{number_of_place, coefficient_in, combination, number_form, no_symbols, times, without_loops}
use Rattle.last_values.specs.normal_forms.NormalLoops.{has_no_loops, has_no_symbols, is_constant, is_undivided, is_unused, is_zero, loop_form, one_at, trip_of}
use Rattle.last_values.specs.normal_forms.Numbers.{number_of_form, products, sum_of_numbers, trip_number}
use Rattle.last_values.proofs.NormalForms.Numbers.{combination_has_number, none_among_zeros, places_of, products-alike, products-zero}
use Rattle.scalar_expand.specs.Extents.{are_counted, are_few, sizes_fit, extent_form, extent_under, extents_of_trips, extents_under, greatest, greatest_from, if_few}
use Rattle.scalar_expand.specs.Flow.{AreTurns}
use Rattle.scalar_expand.specs.Numbers.{ExtentsCover, at_loops, from_place, limits_of, number_under, numbers_under, trip_at, turns_to}
use Rattle.scalar_expand.specs.Privates.{names_written, round_loop, trip_or_none, trips_of}
use Rattle.scalar_expand.specs.Stores.{numbers}
use Rattle.scalar_expand.specs.declared.privates.Private.{Private}
use Rattle.scalar_expand.proofs.PrivateLaws.{first_begins, has_first}
use Rattle.scalar_expand.proofs.Theorems.{in_privates}

-- ---- quotients

div-rises : (a b n : ℕ) → 0 < n → a ≤ b → a / n ≤ b / n
div-rises a b n some h =
    let whole = div-add-mod' a n in
    le-div (a / n) b n some (omega (arith, whole, h))

pub quotient-rises : (a b : ℤ) (n : ℕ) → 0 < n → a ≤ℤ b → int_div a (pos n) ≤ℤ int_div b (pos n)
quotient-rises (pos a) (pos b) n some h = let less = div-rises a b n some (omega (arith, ints, h)) in omega (arith, ints, less)
quotient-rises (pos a) (negsuc b) n some h = absurd (omega (arith, ints, h))
quotient-rises (negsuc a) (pos b) n some h = below (suc a / n) (b / n)
  where
    below : (p q : ℕ) → neg_ℤ (pos p) ≤ℤ pos q
    below zero q = omega (arith, ints)
    below (suc p) q = omega (arith, ints)
quotient-rises (negsuc a) (negsuc b) n some h = turned (suc b / n) (suc a / n) (div-rises (suc b) (suc a) n some (omega (arith, ints, h)))
  where
    turned : (p q : ℕ) → p ≤ q → neg_ℤ (pos q) ≤ℤ neg_ℤ (pos p)
    turned zero zero h = omega (arith, ints)
    turned zero (suc q) h = omega (arith, ints)
    turned (suc p) zero h = absurd (omega (arith, h))
    turned (suc p) (suc q) h = omega (arith, ints, h)

by_one : (z : ℤ) → int_div z (pos 1) ≡ z
by_one z =
    let whole = quot-rem z (pos 1) in
    let none = small (int_rem z (pos 1)) (rem_below z (pos 1) (omega arith)) in
    alone (int_div z (pos 1)) (int_rem z (pos 1)) z whole none
  where
    small : (z : ℤ) → unsigned_abs z < 1 → z ≡ pos 0
    small (pos zero) h = refl
    small (pos (suc n)) h = absurd (omega (arith, ints, h))
    small (negsuc n) h = absurd (omega (arith, ints, h))

    alone : (q r z : ℤ) → q *ℤ pos 1 +ℤ r ≡ z → r ≡ pos 0 → q ≡ z
    alone q r z h e = omega (arith, ints, h, e)

-- ---- simple forms

zero_at : (k : ℕ) → number_of_place (number_form (pos 0)) (place.Loop k) ≡ pos 0
zero_at zero = refl
zero_at (suc zero) = refl
zero_at (suc (suc zero)) = refl
zero_at (suc (suc (suc zero))) = refl
zero_at (suc (suc (suc (suc zero)))) = refl
zero_at (suc (suc (suc (suc (suc zero))))) = refl
zero_at (suc (suc (suc (suc (suc (suc zero)))))) = refl
zero_at (suc (suc (suc (suc (suc (suc (suc k))))))) = refl

pub loops_zero : (zs : List ℤ) (k : ℕ) → list_all is_zero zs ≡ true → get_or zs k (pos 0) ≡ pos 0
loops_zero [] k h = refl
loops_zero (z ∷ zs) zero h = (Decides-int_eq z (pos 0)).0 (both (is_zero z) (list_all is_zero zs) h).0
loops_zero (z ∷ zs) (suc k) h = loops_zero zs k (both (is_zero z) (list_all is_zero zs) h).1

symbols_zero : (ts : List (ℕ × ℤ)) (j : ℕ) → list_all is_unused ts ≡ true → coefficient_in ts j ≡ pos 0
symbols_zero [] j h = refl
symbols_zero (t ∷ ts) j h = by (t.0 == j) ((Decides-int_eq t.1 (pos 0)).0 (both (is_unused t) (list_all is_unused ts) h).0) (symbols_zero ts j (both (is_unused t) (list_all is_unused ts) h).1)
  where
    by : (b : Bool) → t.1 ≡ pos 0 → coefficient_in ts j ≡ pos 0 → cond b t.1 (coefficient_in ts j) ≡ pos 0
    by true e g = e
    by false e g = g

-- no loop from the K-th on stands in a form
abbrev Bare : ℕ → Affine → Type 0
Bare K f = (j : ℕ) → K ≤ j → j < 7 → number_of_place f (place.Loop j) ≡ pos 0

one-zero : (k j : ℕ) → k < j → number_of_place (loop_form k) (place.Loop j) ≡ pos 0
one-zero k zero h = absurd (omega (arith, h))
one-zero k (suc zero) h = other k 1 h
  where
    other : (k j : ℕ) → k < j → one_at k j ≡ pos 0
    other k j h = ap (λ b. cond b (pos 1) (pos 0)) (ne_eqb j k (λ e. (omega (arith, h, e))))
one-zero k (suc (suc zero)) h = ap (λ b. cond b (pos 1) (pos 0)) (ne_eqb 2 k (λ e. (omega (arith, h, e))))
one-zero k (suc (suc (suc zero))) h = ap (λ b. cond b (pos 1) (pos 0)) (ne_eqb 3 k (λ e. (omega (arith, h, e))))
one-zero k (suc (suc (suc (suc zero)))) h = ap (λ b. cond b (pos 1) (pos 0)) (ne_eqb 4 k (λ e. (omega (arith, h, e))))
one-zero k (suc (suc (suc (suc (suc zero))))) h = ap (λ b. cond b (pos 1) (pos 0)) (ne_eqb 5 k (λ e. (omega (arith, h, e))))
one-zero k (suc (suc (suc (suc (suc (suc zero)))))) h = ap (λ b. cond b (pos 1) (pos 0)) (ne_eqb 6 k (λ e. (omega (arith, h, e))))
one-zero k (suc (suc (suc (suc (suc (suc (suc j))))))) h = refl

products-same : (n j : ℕ) (c x y : ℕ → ℤ) → ((i : ℕ) → i < j + n → c i *ℤ x i ≡ c i *ℤ y i) → products n j c x ≡ products n j c y
products-same zero j c x y h = refl
products-same (suc n) j c x y h = ap₂ (λ p q. p +ℤ q) (h j (omega arith)) (products-same n (j + 1) c x y (λ i k. h i (omega (arith, k))))

-- ---- products

more-by : (i e : ℤ) → i ≤ℤ e → (k : ℕ) × (e ≡ i +ℤ pos k)
more-by i e h = by (e +ℤ negsuc 0 *ℤ i) refl
  where
    by : (d : ℤ) → (e +ℤ negsuc 0 *ℤ i) ≡ d → (k : ℕ) × (e ≡ i +ℤ pos k)
    by (pos k) g = (k, omega (arith, ints, g))
    by (negsuc k) g = absurd (omega (arith, ints, g, h))

more-times : (a : ℕ) (i e : ℤ) → i ≤ℤ e → (pos a *ℤ i) ≤ℤ (pos a *ℤ e)
more-times a i e h =
    let k = more-by i e h in
    let whole : pos a *ℤ e ≡ pos a *ℤ i +ℤ pos (a * k.0) = ap (λ z. pos a *ℤ z) k.1 ∙ spread_left (pos a) i (pos k.0) in
    above (pos a *ℤ i) (pos a *ℤ e) (a * k.0) whole
  where
    above : (p q : ℤ) (m : ℕ) → q ≡ p +ℤ pos m → p ≤ℤ q
    above p q m e = omega (arith, ints, e)

less-times : (c i : ℤ) → c ≤ℤ pos 0 → pos 1 ≤ℤ i → (c *ℤ i) ≤ℤ (c *ℤ pos 1)
less-times c i h l =
    let k = more-by (pos 1) i l in
    let b = more-by c (pos 0) h in
    let whole : c *ℤ i ≡ c *ℤ pos 1 +ℤ c *ℤ pos k.0 = ap (λ z. c *ℤ z) k.1 ∙ spread_left c (pos 1) (pos k.0) in
    let none : c *ℤ pos k.0 +ℤ pos (b.0 * k.0) ≡ pos 0 = sym (spread c (pos b.0) (pos k.0)) ∙ (ap (λ z. z *ℤ pos k.0) (sym b.1) ∙ zero-*ℤ (pos k.0)) in
    below (c *ℤ i) (c *ℤ pos 1) (c *ℤ pos k.0) (b.0 * k.0) whole none
  where
    below : (p q r : ℤ) (m : ℕ) → p ≡ q +ℤ r → r +ℤ pos m ≡ pos 0 → p ≤ℤ q
    below p q r m e f = omega (arith, ints, e, f)

-- ---- with this many symbols, of these values

module _ (n : ℕ) (values : ℕ → ℤ) where
  abbrev Number : (ℕ → ℤ) → Affine → ℤ
  Number F f = number_of_form n F values f

  number-number : (F : ℕ → ℤ) (z : ℤ) → Number F (number_form z) ≡ z
  number-number F z =
      ap₂ (λ p q. p +ℤ (q +ℤ z)) (products-alike 7 0 (λ k. number_of_place (number_form z) (place.Loop k)) (λ k. pos 0) F (λ k h. zero_at k) ∙ products-zero 7 0 F)
      (products-alike n 0 (λ j. coefficient_in no_symbols j) (λ j. pos 0) values (λ j h. none_among_zeros 8 j) ∙ products-zero n 0 values)
      ∙ zeros z
    where
      zeros : (z : ℤ) → pos 0 +ℤ (pos 0 +ℤ z) ≡ z
      zeros z = omega (arith, ints)

  one : (F : ℕ → ℤ) (k : ℕ) → k < 7 → products 7 0 (λ j. number_of_place (loop_form k) (place.Loop j)) F ≡ F k
  one F zero h = omega (arith, ints)
  one F (suc zero) h = omega (arith, ints)
  one F (suc (suc zero)) h = omega (arith, ints)
  one F (suc (suc (suc zero))) h = omega (arith, ints)
  one F (suc (suc (suc (suc zero)))) h = omega (arith, ints)
  one F (suc (suc (suc (suc (suc zero))))) h = omega (arith, ints)
  one F (suc (suc (suc (suc (suc (suc zero)))))) h = omega (arith, ints)
  one F (suc (suc (suc (suc (suc (suc (suc k))))))) h = absurd (omega (arith, h))

  number-loop : (F : ℕ → ℤ) (k : ℕ) → k < 7 → Number F (loop_form k) ≡ F k
  number-loop F k h =
      ap₂ (λ p q. p +ℤ (q +ℤ pos 0)) (one F k h) (products-alike n 0 (λ j. coefficient_in no_symbols j) (λ j. pos 0) values (λ j m. none_among_zeros 8 j) ∙ products-zero n 0 values)
      ∙ zeros (F k)
    where
      zeros : (z : ℤ) → z +ℤ (pos 0 +ℤ pos 0) ≡ z
      zeros z = omega (arith, ints)

  constant-number : (F : ℕ → ℤ) (a : Affine) → is_constant a ≡ true → Number F a ≡ a.constant
  constant-number F a h =
      let p = both (has_no_loops a) (has_no_symbols a) h in
      ap₂ (λ x y. x +ℤ (y +ℤ a.constant)) (products-alike 7 0 (λ k. number_of_place a (place.Loop k)) (λ k. pos 0) F (λ k m. loops_zero a.loops k p.0) ∙ products-zero 7 0 F)
      (products-alike n 0 (λ j. number_of_place a (place.Symbol j)) (λ j. pos 0) values (λ j m. symbols_zero a.syms j p.1) ∙ products-zero n 0 values)
      ∙ zeros a.constant
    where
      zeros : (z : ℤ) → pos 0 +ℤ (pos 0 +ℤ z) ≡ z
      zeros z = omega (arith, ints)

  folded : (F : ℕ → ℤ) (a : Affine) (d : ℤ) → trip_number n F values (trip_of a d) ≡ int_div (Number F a) d
  folded F a d = by (is_constant a) refl
    where
      by : (b : Bool) → is_constant a ≡ b → trip_number n F values (cond b (record { top = number_form (int_div a.constant d); by = pos 1 }) (record { top = a; by = d })) ≡ int_div (Number F a) d
      by true e = by_one (Number F (number_form (int_div a.constant d))) ∙ (number-number F (int_div a.constant d) ∙ ap (λ z. int_div z d) (sym (constant-number F a e)))
      by false e = refl

  bare_trip : (K : ℕ) (a : Affine) (d : ℤ) → Bare K a → Bare K (trip_of a d).top
  bare_trip K a d h = by (is_constant a)
    where
      by : (b : Bool) → Bare K (cond {A = Trip} b (record { top = number_form (int_div a.constant d); by = pos 1 }) (record { top = a; by = d })).top
      by true j k m = zero_at j
      by false j k m = h j k m

  -- only loops before the K-th matter
  number-alike : (K : ℕ) (F G : ℕ → ℤ) (f : Affine) → Bare K f → ((j : ℕ) → j < K → F j ≡ G j) → Number F f ≡ Number G f
  number-alike K F G f bare same =
      ap (λ z. z +ℤ (products n 0 (λ j. number_of_place f (place.Symbol j)) values +ℤ number_of_place f place.Constant)) (products-same 7 0 (λ k. number_of_place f (place.Loop k)) F G (λ i m. by i (omega (arith, m)) (nat_lt i K) refl))
    where
      by : (i : ℕ) → i < 7 → (b : Bool) → nat_lt i K ≡ b → number_of_place f (place.Loop i) *ℤ F i ≡ number_of_place f (place.Loop i) *ℤ G i
      by i m true e = ap (λ z. number_of_place f (place.Loop i) *ℤ z) (same i (ltb-true i K e))
      by i m false e = let none = bare i (ltb-false i K e) m in ap (λ c. c *ℤ F i) none ∙ (zero-*ℤ (F i) ∙ sym (ap (λ c. c *ℤ G i) none ∙ zero-*ℤ (G i)))

  -- ---- extents and their numbers

  -- from the k-th on, by the numbers F of all loops so far, of which there are K
  abbrev Stand : ℕ → (ℕ → ℤ) → ℕ → List Trip → List ℤ → Type 0
  Stand K F k [] [] = Unit {0}
  Stand K F k (t ∷ ts) (e ∷ es) = (Number F (extent_form k t) ≡ e) × Bare K (extent_form k t) × Stand K F (k + 1) ts es
  Stand K F k _ _ = ⊥

  -- iterations from 1 up to these numbers
  abbrev Under : List ℕ → List ℤ → Type 0
  Under [] [] = Unit {0}
  Under (i ∷ is) (e ∷ es) = (1 ≤ i) × (pos i ≤ℤ e) × Under is es
  Under _ _ = ⊥

  -- so many times each iteration
  abbrev weighted_from : Affine → ℕ → List ℕ → ℤ
  weighted_from f k [] = pos 0
  weighted_from f k (i ∷ is) = number_of_place f (place.Loop k) *ℤ pos i +ℤ weighted_from f (k + 1) is

  one-greatest : (F : ℕ → ℤ) (c : ℤ) (k : ℕ) (t : Trip) (i : ℕ) (e : ℤ) → Number F (extent_form k t) ≡ e → 1 ≤ i → pos i ≤ℤ e
      → (c *ℤ pos i) ≤ℤ ((greatest c k t).times *ℤ Number F (greatest c k t).form)
  unfolding greatest
  one-greatest F (pos zero) k t i e g low high = subst (λ z. (pos zero *ℤ pos i) ≤ℤ (pos zero *ℤ z)) (sym (number-number F (pos 1))) (less-times (pos zero) (pos i) (omega (arith, ints)) (omega (arith, ints, low)))
  one-greatest F (pos (suc a)) k t i e g low high = by (int_lt (pos 0) (pos (suc a))) (lt-ltb 0 (suc a) (omega arith))
    where
      by : (b : Bool) → b ≡ true → (pos (suc a) *ℤ pos i) ≤ℤ (pos (suc a) *ℤ Number F (cond b (extent_form k t) (number_form (pos 1))))
      by true f = subst (λ z. (pos (suc a) *ℤ pos i) ≤ℤ (pos (suc a) *ℤ z)) (sym g) (more-times (suc a) (pos i) e high)
      by false f = cc
  one-greatest F (negsuc a) k t i e g low high = subst (λ z. (negsuc a *ℤ pos i) ≤ℤ (negsuc a *ℤ z)) (sym (number-number F (pos 1))) (less-times (negsuc a) (pos i) (omega (arith, ints)) (omega (arith, ints, low)))

  greatest-sum : (K : ℕ) (F : ℕ → ℤ) (f : Affine) (k : ℕ) (ts : List Trip) (es : List ℤ) (is : List ℕ) → Stand K F k ts es → Under is es
      → weighted_from f k is ≤ℤ sum_of_numbers n F values (greatest_from k f ts)
  greatest-sum K F f k [] [] [] h u = omega (arith, ints)
  greatest-sum K F f k [] [] (i ∷ is) h u = absurd u
  greatest-sum K F f k [] (e ∷ es) is h u = absurd h
  greatest-sum K F f k (t ∷ ts) [] is h u = absurd h
  greatest-sum K F f k (t ∷ ts) (e ∷ es) [] h u = absurd u
  greatest-sum K F f k (t ∷ ts) (e ∷ es) (i ∷ is) h u =
      let first = one-greatest F (number_of_place f (place.Loop k)) k t i e h.0 u.0 u.1 in
      let rest = greatest-sum K F f (k + 1) ts es is h.2 u.2 in
      added (number_of_place f (place.Loop k) *ℤ pos i) ((greatest (number_of_place f (place.Loop k)) k t).times *ℤ Number F (greatest (number_of_place f (place.Loop k)) k t).form) (weighted_from f (k + 1) is) (sum_of_numbers n F values (greatest_from (k + 1) f ts)) first rest
    where
      added : (a b c d : ℤ) → a ≤ℤ b → c ≤ℤ d → (a +ℤ c) ≤ℤ (b +ℤ d)
      added a b c d p q = omega (arith, ints, p, q)

  -- ---- the number of a trip

  -- of a list from the k-th place on
  products-listed : (m k : ℕ) (f : Affine) (is : List ℕ) (x : ℕ → ℤ) → length is ≤ m → ((i : ℕ) → x (k + i) ≡ get_or (map pos is) i (pos 0)) → products m k (λ j. number_of_place f (place.Loop j)) x ≡ weighted_from f k is
  products-listed zero k f [] x l h = refl
  products-listed zero k f (i ∷ is) x l h = absurd (omega (arith, l))
  products-listed (suc m) k f [] x l h =
      let here : x k ≡ pos 0 = (let e : k ≡ k + 0 = omega arith in ap x e ∙ h 0) in
      ap₂ (λ p q. number_of_place f (place.Loop k) *ℤ p +ℤ q) here (products-listed m (k + 1) f [] x (omega arith) (λ i. (let e : (k + 1) + i ≡ k + suc i = omega arith in ap x e ∙ h (suc i))))
      ∙ ap (λ z. z +ℤ pos 0) (*ℤ-zero (number_of_place f (place.Loop k)))
  products-listed (suc m) k f (i ∷ is) x l h =
      let here : x k ≡ pos i = (let e : k ≡ k + 0 = omega arith in ap x e ∙ h 0) in
      ap₂ (λ p q. number_of_place f (place.Loop k) *ℤ p +ℤ q) here (products-listed m (k + 1) f is x (omega (arith, l)) (λ j. (let e : (k + 1) + j ≡ k + suc j = omega arith in ap x e ∙ h (suc j))))

  abbrev rest_of : Affine → ℤ
  rest_of f = products n 0 (λ j. number_of_place f (place.Symbol j)) values +ℤ number_of_place f place.Constant

  number-listed : (f : Affine) (is : List ℕ) → length is ≤ 7 → Number (at_loops (map pos is)) f ≡ weighted_from f 0 is +ℤ rest_of f
  number-listed f is l = ap (λ z. z +ℤ rest_of f) (products-listed 7 0 f is (at_loops (map pos is)) l (λ i. (let e : 0 + i ≡ i = omega arith in ap (at_loops (map pos is)) e)))

  number-loopless : (F : ℕ → ℤ) (f : Affine) → Number F (without_loops f) ≡ rest_of f
  number-loopless F f =
      ap (λ z. z +ℤ rest_of f) (products-alike 7 0 (λ k. number_of_place (without_loops f) (place.Loop k)) (λ k. pos 0) F (λ k m. zero_at k) ∙ products-zero 7 0 F) ∙ zeros (rest_of f)
    where
      zeros : (z : ℤ) → pos 0 +ℤ z ≡ z
      zeros z = omega (arith, ints)

  sum-append : (F : ℕ → ℤ) (ts us : List Multiple) → sum_of_numbers n F values (ts ++ us) ≡ sum_of_numbers n F values ts +ℤ sum_of_numbers n F values us
  sum-append F [] us = zeros (sum_of_numbers n F values us)
    where
      zeros : (z : ℤ) → z ≡ pos 0 +ℤ z
      zeros z = omega (arith, ints)
  sum-append F (t ∷ ts) us = ap (λ z. t.times *ℤ Number F t.form +ℤ z) (sum-append F ts us) ∙ grouped (t.times *ℤ Number F t.form) (sum_of_numbers n F values ts) (sum_of_numbers n F values us)
    where
      grouped : (a b c : ℤ) → a +ℤ (b +ℤ c) ≡ (a +ℤ b) +ℤ c
      grouped a b c = omega (arith, ints)

  -- the extent's dividend is no less than the trip's
  dividend-less : (F : ℕ → ℤ) (K : ℕ) (f a : Affine) (ts : List Trip) (es : List ℤ) (is : List ℕ) → length is ≤ 7 → Stand K F 0 ts es → Under is es
      → combination n (greatest_from 0 f ts ++ times (pos 1) (without_loops f) ∷ []) ≡ Some a → Number (at_loops (map pos is)) f ≤ℤ Number F a
  dividend-less F K f a ts es is l h u e =
      let listed = number-listed f is l in
      let most = greatest-sum K F f 0 ts es is h u in
      let whole = combination_has_number n (greatest_from 0 f ts ++ times (pos 1) (without_loops f) ∷ []) a F values e ∙ sum-append F (greatest_from 0 f ts) (times (pos 1) (without_loops f) ∷ []) in
      let last : sum_of_numbers n F values (times (pos 1) (without_loops f) ∷ []) ≡ rest_of f = single (Number F (without_loops f)) ∙ number-loopless F f in
      added (Number (at_loops (map pos is)) f) (weighted_from f 0 is) (rest_of f) (Number F a) (sum_of_numbers n F values (greatest_from 0 f ts)) (sum_of_numbers n F values (times (pos 1) (without_loops f) ∷ [])) listed most whole last
    where
      single : (z : ℤ) → pos 1 *ℤ z +ℤ pos 0 ≡ z
      single z = omega (arith, ints)

      added : (p w r q g c : ℤ) → p ≡ w +ℤ r → w ≤ℤ g → q ≡ g +ℤ c → c ≡ r → p ≤ℤ q
      added p w r q g c e h f d = omega (arith, ints, e, h, f, d)

  -- ---- which loops stand in extents

  zero-sum : (a b : ℤ) → a ≡ pos 0 → b ≡ pos 0 → a +ℤ b ≡ pos 0
  zero-sum a b e f = omega (arith, ints, e, f)

  greatest-bare : (K : ℕ) (c : ℤ) (k : ℕ) (t : Trip) → Bare K (extent_form k t) → Bare K (greatest c k t).form
  unfolding greatest
  greatest-bare K c k t h = by (int_lt (pos 0) c)
    where
      by : (b : Bool) → Bare K (cond b (extent_form k t) (number_form (pos 1)))
      by true j l m = h j l m
      by false j l m = zero_at j

  combined-bare : (K : ℕ) (F : ℕ → ℤ) (f : Affine) (k : ℕ) (ts : List Trip) (es : List ℤ) → Stand K F k ts es → (j : ℕ) → K ≤ j → j < 7
      → Rattle.last_values.specs.normal_forms.Combinations.combined_at (greatest_from k f ts ++ times (pos 1) (without_loops f) ∷ []) (place.Loop j) ≡ pos 0
  combined-bare K F f k [] [] h j l m = zero-sum (pos 1 *ℤ number_of_place (without_loops f) (place.Loop j)) (pos 0) (ap (λ z. pos 1 *ℤ z) (zero_at j)) refl
  combined-bare K F f k [] (e ∷ es) h j l m = absurd h
  combined-bare K F f k (t ∷ ts) [] h j l m = absurd h
  combined-bare K F f k (t ∷ ts) (e ∷ es) h j l m =
      zero-sum ((greatest (number_of_place f (place.Loop k)) k t).times *ℤ number_of_place (greatest (number_of_place f (place.Loop k)) k t).form (place.Loop j))
      (Rattle.last_values.specs.normal_forms.Combinations.combined_at (greatest_from (k + 1) f ts ++ times (pos 1) (without_loops f) ∷ []) (place.Loop j))
      (ap (λ z. (greatest (number_of_place f (place.Loop k)) k t).times *ℤ z) (greatest-bare K (number_of_place f (place.Loop k)) k t h.1 j l m) ∙ *ℤ-zero (greatest (number_of_place f (place.Loop k)) k t).times)
      (combined-bare K F f (k + 1) ts es h.2 j l m)

  form-bare : (K : ℕ) (F : ℕ → ℤ) (f a : Affine) (ts : List Trip) (es : List ℤ) → Stand K F 0 ts es → combination n (greatest_from 0 f ts ++ times (pos 1) (without_loops f) ∷ []) ≡ Some a → Bare K a
  form-bare K F f a ts es h e j l m = (places_of n (greatest_from 0 f ts ++ times (pos 1) (without_loops f) ∷ []) a e).loops j m ∙ combined-bare K F f 0 ts es h j l m

  -- ---- one extent more

  stand-more : (K L : ℕ) (F G : ℕ → ℤ) (k : ℕ) (ts : List Trip) (es : List ℤ) → K ≤ L → ((j : ℕ) → j < K → F j ≡ G j) → Stand K F k ts es → Stand L G k ts es
  stand-more K L F G k [] [] l same h = tt
  stand-more K L F G k [] (e ∷ es) l same h = absurd h
  stand-more K L F G k (t ∷ ts) [] l same h = absurd h
  stand-more K L F G k (t ∷ ts) (e ∷ es) l same h =
      (sym (number-alike K F G (extent_form k t) h.1 same) ∙ h.0, (λ j m q. h.1 j (omega (arith, m, l)) q), stand-more K L F G (k + 1) ts es l same h.2)

  stand-last : (K : ℕ) (F : ℕ → ℤ) (k : ℕ) (ts : List Trip) (es : List ℤ) (t : Trip) (e : ℤ) → Number F (extent_form (k + length es) t) ≡ e → Bare K (extent_form (k + length es) t) → Stand K F k ts es → Stand K F k (ts ++ t ∷ []) (es ++ e ∷ [])
  stand-last K F k [] [] t e g b h =
      let same : k + 0 ≡ k = omega arith in
      (subst (λ m. Number F (extent_form m t) ≡ e) same g, subst (λ m. Bare K (extent_form m t)) same b, tt)
  stand-last K F k [] (x ∷ es) t e g b h = absurd h
  stand-last K F k (s ∷ ts) [] t e g b h = absurd h
  stand-last K F k (s ∷ ts) (x ∷ es) t e g b h =
      let same : k + suc (length es) ≡ (k + 1) + length es = omega arith in
      (h.0, h.1, stand-last K F (k + 1) ts es t e (subst (λ m. Number F (extent_form m t) ≡ e) same g) (subst (λ m. Bare K (extent_form m t)) same b) h.2)

  number_of_place-before : (es : List ℤ) (e : ℤ) (j : ℕ) → j < length es → at_loops es j ≡ at_loops (es ++ e ∷ []) j
  number_of_place-before [] e j h = absurd (omega (arith, h))
  number_of_place-before (x ∷ es) e zero h = refl
  number_of_place-before (x ∷ es) e (suc j) h = number_of_place-before es e j (omega (arith, h))

  number_of_place-last : (es : List ℤ) (e : ℤ) → at_loops (es ++ e ∷ []) (length es) ≡ e
  number_of_place-last [] e = refl
  number_of_place-last (x ∷ es) e = number_of_place-last es e

  numbers-last : (zs : List ℤ) (ts : List Trip) (t : Trip) → numbers_under n values zs (ts ++ t ∷ []) ≡ numbers_under n values zs ts ++ number_under n values (numbers_under n values zs ts) t ∷ []
  numbers-last zs [] t = refl
  numbers-last zs (s ∷ ts) t = numbers-last (zs ++ number_under n values zs s ∷ []) ts t

  under-last : (is : List ℕ) (es : List ℤ) (i : ℕ) (e : ℤ) → 1 ≤ i → pos i ≤ℤ e → Under is es → Under (is ++ i ∷ []) (es ++ e ∷ [])
  under-last [] [] i e low high h = (low, high, tt)
  under-last [] (x ∷ es) i e low high h = absurd h
  under-last (j ∷ is) [] i e low high h = absurd h
  under-last (j ∷ is) (x ∷ es) i e low high h = (h.0, h.1, under-last is es i e low high h.2)

  turned-to : (i : ℕ) (z : ℤ) → 1 ≤ i → i ≤ turns_to z → pos i ≤ℤ z
  turned-to i (pos k) low high = omega (arith, ints, high)
  turned-to i (negsuc k) low high = absurd (omega (arith, low, high))

  divided : (z : ℤ) → int_lt (pos 0) z ≡ true → (d : ℕ) × (z ≡ pos (suc d))
  divided (pos zero) e = cc
  divided (pos (suc d)) e = (d, refl)
  divided (negsuc d) e = cc

  length-last : {A : Type 0} (xs : List A) (x : A) → length (xs ++ x ∷ []) ≡ suc (length xs)
  length-last [] x = refl
  length-last (y ∷ xs) x = ap suc (length-last xs x)

  -- the extent of a loop, in its place
  in-place : (es : List ℤ) (e : Trip) → length es < 7 → Bare (length es) e.top → (Number (at_loops (es ++ number_under n values es e ∷ [])) (extent_form (length es) e) ≡ number_under n values es e) × Bare (suc (length es)) (extent_form (length es) e)
  in-place es e few bare = by (is_undivided e) refl
    where
      num : ℤ
      num = number_under n values es e

      by : (b : Bool) → is_undivided e ≡ b → (Number (at_loops (es ++ num ∷ [])) (cond b e.top (loop_form (length es))) ≡ num) × Bare (suc (length es)) (cond b e.top (loop_form (length es)))
      by true f =
          let one = (Decides-int_eq e.by (pos 1)).0 f in (
            sym (number-alike (length es) (at_loops es) (at_loops (es ++ num ∷ [])) e.top bare (number_of_place-before es num)) ∙ sym (ap (int_div (Number (at_loops es) e.top)) one ∙ by_one (Number (at_loops es) e.top)),
            λ j l m. bare j (omega (arith, l)) m,
          )
      by false f = (number-loop (at_loops (es ++ num ∷ [])) (length es) few ∙ number_of_place-last es num, λ j l m. one-zero (length es) j l)

  -- ---- all loops

  abbrev turns : List ℕ → Loop → ℕ
  turns = trip_at n values

  abbrev have_divisors : List Trip → Bool
  have_divisors ts = list_all (λ (t : Trip). int_lt (pos 0) t.by) ts

  covers : (fin ts : List Trip) (es : List ℤ) (done : List ℕ) (ls : List Loop) (is : List ℕ) → length done + length ls ≤ 7 → length es ≡ length done → Stand (length es) (at_loops es) 0 ts es → Under done es
      → numbers_under n values [] ts ≡ es → have_divisors (trips_of (map round_loop ls)) ≡ true → extents_under n ts (trips_of (map round_loop ls)) ≡ Some fin → AreTurns turns done ls is
      → (xs : List ℤ) × (numbers_under n values [] fin ≡ es ++ xs) × Under is xs
  unfolding extent_under
  covers fin ts es done [] [] few same stand under known divisors e h =
      let one : ts ≡ fin = cc in
      ([], ap (numbers_under n values []) (sym one) ∙ (known ∙ sym (append-nil es)), tt)
  covers fin ts es done [] (i ∷ is) few same stand under known divisors e h = absurd h
  covers fin ts es done (l ∷ ls) [] few same stand under known divisors e h = absurd h
  covers fin ts es done (l ∷ ls) (i ∷ is) few same stand under known divisors e h =
      by (combination n (greatest_from 0 trip.top ts ++ times (pos 1) (without_loops trip.top) ∷ [])) refl e
      (λ a f g. (let num = number_under n values es (trip_of a trip.by) in
      covers fin (ts ++ trip_of a trip.by ∷ []) (es ++ num ∷ []) (done ++ i ∷ []) ls is
      (let more = length-last done i in omega (arith, few, more))
      (length-last es num ∙ (ap suc same ∙ sym (length-last done i)))
      (subst (λ m. Stand m (at_loops (es ++ num ∷ [])) 0 (ts ++ trip_of a trip.by ∷ []) (es ++ num ∷ [])) (sym (length-last es num)) (stands a f))
      (under-last done es i num h.0 (above a f) under)
      (numbers-last [] ts (trip_of a trip.by) ∙ ap (λ zs. zs ++ number_under n values zs (trip_of a trip.by) ∷ []) known)
      (both (int_lt (pos 0) trip.by) (have_divisors (trips_of (map round_loop ls))) divisors).1 g h.2))
    where
      trip : Trip
      trip = trip_or_none l.trip

      Form : Affine → Type 0
      Form a = combination n (greatest_from 0 trip.top ts ++ times (pos 1) (without_loops trip.top) ∷ []) ≡ Some a

      short : length es < 7
      short = omega (arith, few, same)

      stands : (a : Affine) → Form a → Stand (suc (length es)) (at_loops (es ++ number_under n values es (trip_of a trip.by) ∷ [])) 0 (ts ++ trip_of a trip.by ∷ []) (es ++ number_under n values es (trip_of a trip.by) ∷ [])
      stands a f =
          let num = number_under n values es (trip_of a trip.by) in
          let place = in-place es (trip_of a trip.by) short (bare_trip (length es) a trip.by (form-bare (length es) (at_loops es) trip.top a ts es stand f)) in
          let none : length es ≡ 0 + length es = omega arith in
          stand-last (suc (length es)) (at_loops (es ++ num ∷ [])) 0 ts es (trip_of a trip.by) num (subst (λ m. Number (at_loops (es ++ num ∷ [])) (extent_form m (trip_of a trip.by)) ≡ num) none place.0) (subst (λ m. Bare (suc (length es)) (extent_form m (trip_of a trip.by))) none place.1)
          (stand-more (length es) (suc (length es)) (at_loops es) (at_loops (es ++ num ∷ [])) 0 ts es (omega arith) (number_of_place-before es num) stand)

      above : (a : Affine) → Form a → pos i ≤ℤ number_under n values es (trip_of a trip.by)
      above a f =
          let d = divided trip.by (both (int_lt (pos 0) trip.by) (have_divisors (trips_of (map round_loop ls))) divisors).0 in
          let less = dividend-less (at_loops es) (length es) trip.top a ts es done (omega (arith, few)) stand under f in
          let risen : int_div (Number (at_loops (map pos done)) trip.top) trip.by ≤ℤ int_div (Number (at_loops es) a) trip.by
          = subst (λ z. int_div (Number (at_loops (map pos done)) trip.top) z ≤ℤ int_div (Number (at_loops es) a) z) (sym d.1) (quotient-rises (Number (at_loops (map pos done)) trip.top) (Number (at_loops es) a) (suc d.0) (omega arith) less) in
          let reached = turned-to i (number_under n values (map pos done) trip) h.0 h.1 in
          let whole = folded (at_loops es) a trip.by in
          through (pos i) (int_div (Number (at_loops (map pos done)) trip.top) trip.by) (int_div (Number (at_loops es) a) trip.by) (number_under n values es (trip_of a trip.by)) reached risen whole
        where
          through : (p q r t : ℤ) → p ≤ℤ q → q ≤ℤ r → t ≡ r → p ≤ℤ t
          through p q r t h g e = omega (arith, ints, h, g, e)

      by : (o : Option Affine) → combination n (greatest_from 0 trip.top ts ++ times (pos 1) (without_loops trip.top) ∷ []) ≡ o → extents_under n ts (trip ∷ trips_of (map round_loop ls)) ≡ Some fin
          → ((a : Affine) → Form a → extents_under n (ts ++ trip_of a trip.by ∷ []) (trips_of (map round_loop ls)) ≡ Some fin → (xs : List ℤ) × (numbers_under n values [] fin ≡ (es ++ number_under n values es (trip_of a trip.by) ∷ []) ++ xs) × Under is xs)
          → (xs : List ℤ) × (numbers_under n values [] fin ≡ es ++ xs) × Under (i ∷ is) xs
      by None f g r =
          let bad : ◌≡◌ {A = Option (List Trip)} None (Some fin) = sym (ap (λ (o : Option Affine). (do e ← (do a ← o; Some (trip_of a trip.by)); extents_under n (ts ++ e ∷ []) (trips_of (map round_loop ls)))) f) ∙ g in
          cc
      by (Some a) f g r =
          let more = r a f (sym (ap (λ (o : Option Affine). (do e ← (do a ← o; Some (trip_of a trip.by)); extents_under n (ts ++ e ∷ []) (trips_of (map round_loop ls)))) f) ∙ g) in
          (number_under n values es (trip_of a trip.by) ∷ more.0, more.1 ∙ append_assoc es (number_under n values es (trip_of a trip.by) ∷ []) more.0, (h.0, above a f, more.2))

  -- ---- within the bounds

  no-more : (i : ℕ) (x : ℤ) → pos i ≤ℤ x → int_le (pos i) x ≡ true
  no-more i (pos k) h = le-leb i k (omega (arith, ints, h))
  no-more i (negsuc k) h = absurd (omega (arith, ints, h))

  no-less : (a : ℤ) (i : ℕ) → a ≤ℤ pos i → int_le a (pos i) ≡ true
  no-less (pos k) i h = le-leb k i (omega (arith, ints, h))
  no-less (negsuc k) i h = refl

  module _ (first : ℤ) (front : first ≤ℤ pos 1) where
    within_onto : (is : List ℕ) (es : List ℤ) (bs : List (ℤ × ℤ)) (zs : List ℤ) → Under is es → is_within bs zs ≡ true → is_within (reverse_aux (map (from_place n values first) es) bs) (reverse_aux (map pos is) zs) ≡ true
    within_onto [] [] bs zs h e = e
    within_onto [] (x ∷ es) bs zs h e = absurd h
    within_onto (i ∷ is) [] bs zs h e = absurd h
    within_onto (i ∷ is) (x ∷ es) bs zs h e =
        let low = h.0 in
        within_onto is es ((first, x) ∷ bs) (pos i ∷ zs) h.2
        (ap₂ (λ p q. p && q) (no-less first i (omega (arith, ints, low, front))) (ap₂ (λ p q. p && q) (no-more i x h.1) e))

  -- ---- all extents

  pub record Found (ts es : List Trip) : Type 0 where
    pub few : length ts ≤ 7
    pub divisors : have_divisors ts ≡ true
    pub under : extents_under n [] ts ≡ Some es

  pub extents_found : (ts es : List Trip) → extents_of_trips n ts ≡ Some es → Found ts es
  unfolding extents_of_trips
  extents_found ts es e = by (are_counted ts && sizes_fit n ts) refl e
    where
      chosen : (o : Option (List Trip)) → extents_under n [] ts ≡ o → (o >>= if_few) ≡ Some es → extents_under n [] ts ≡ Some es
      chosen None f g = cc
      chosen (Some us) f g = few (are_few us) g
        where
          few : (b : Bool) → ◌≡◌ {A = Option (List Trip)} (cond b (Some us) None) (Some es) → extents_under n [] ts ≡ Some es
          few true h = f ∙ h
          few false h = cc

      by : (b : Bool) → (are_counted ts && sizes_fit n ts) ≡ b → cond b (extents_under n [] ts >>= if_few) None ≡ Some es → Found ts es
      by true f g =
          let c = both (are_counted ts) (sizes_fit n ts) f in
          let d = both (nat_le (length ts) array_dimensions) (have_divisors ts) c.0 in
          record { few = leb-true (length ts) array_dimensions d.0; divisors = d.1; under = chosen (extents_under n [] ts) refl g }
      by false f g = cc

  length-round : (ls : List Loop) → length (trips_of (map round_loop ls)) ≡ length ls
  length-round [] = refl
  length-round (l ∷ ls) = ap suc (length-round ls)

  pub extents_cover : (first : ℤ) → first ≤ℤ pos 1 → (p : Private) (ls : List Loop) (is : List ℕ) → extents_of_trips n (trips_of (map round_loop ls)) ≡ Some p.extents → AreTurns turns [] ls is → is_within (limits_of n values first p) (numbers is) ≡ true
  extents_cover first front p ls is e h =
      let f = extents_found (trips_of (map round_loop ls)) p.extents e in
      let same = length-round ls in
      let few = f.few in
      let c = covers p.extents [] [] [] ls is (omega (arith, same, few)) refl tt tt refl f.divisors f.under h in
      subst (λ es. is_within (reverse (map (from_place n values first) es)) (numbers is) ≡ true) (sym c.1) (within_onto first front is c.0 [] [] c.2 refl)

pub covered : ExtentsCover
covered m values first front p i ls same is h =
    let known = in_privates m (names_written [] (nest_statements m)) p i in
    let f = has_first m p.name p (nest_statements m) known in
    let b = first_begins m p.name p f.before f.standing f.behind (ap (Rattle.scalar_expand.specs.Privates.private_among m p.name) (sym f.splits) ∙ known) f.none f.stands in
    extents_cover (length m.symbols) values first front p ls is (ap (λ ks. extents_of_trips (length m.symbols) (trips_of ks)) (sym same ∙ b.1.loops) ∙ b.1.extents) h
