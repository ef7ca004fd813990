-- The sizes of extents: whatever the symbols hold, and as far as outer extents keep their sizes, the number of an extent
-- is at most that of its size where each symbol is 2^63.
use mathlib.Core.Path.{ap₂}
use Rattle.std.proofs.Common.{◌≡◌, refl, sym, ap, ◌∙◌, subst, ℕ, zero, suc, ◌+◌, ◌*◌, ◌^◌, ◌≤◌, ◌<◌, ℤ, pos, ◌+ℤ◌, ◌*ℤ◌, Bool, true, false, cond, List, [], ◌∷◌, ◌++◌, length, get_or, Some, arith}
use Rattle.std.specs.Prelude.{int_div, int_lt, nat_abs, slice_index_or, ◌==◌}
use Rattle.std.proofs.lemmas.Bool.{le-leb}
use Rattle.std.proofs.lemmas.Int.{ints}
use Rattle.components.specs.Lists.{Each}
use Rattle.linear_forms.proofs.Sizes.{abs-product, abs-sum, smaller}
use Rattle.last_values.proofs.NormalForms.Numbers.{combination_has_number, none_among_zeros, products-alike, products-zero}
use Rattle.last_values.specs.declared.normal_forms.combinations.Multiple.{Multiple}
use Rattle.last_values.specs.declared.normal_forms.places.Place.TheVariants as place
use Rattle.last_values.specs.normal_forms.Combinations.{number_of_place, coefficient_in, combination, no_symbols, number_form, times, without_loops, zero_loops}
use Rattle.last_values.specs.normal_forms.NormalLoops.{is_constant, is_undivided, loop_form, trip_of}
use Rattle.last_values.specs.normal_forms.Numbers.{number_of_form, products, sum_of_numbers}
use Rattle.nest.specs.declared.parts.Trip.{Trip}
use Rattle.pass_laws.proofs.LastRuns.Forms.{abs_quotient}
use Rattle.pass_laws.proofs.NormalFacts.StatementKinds.{IsSmallForm}
use Rattle.pass_laws.proofs.PreparedNests.Normal.LoopSizes.{IsSized}
use Rattle.subscripts.specs.Shapes.{IsSmall}
use Rattle.subscripts.specs.declared.affine.Affine.{Affine}
use Rattle.scalar_expand.specs.Extents.{extent_form, greatest, greatest_from, greatest_size, size_of_number, sized, sized_terms, sizes_from}

abbrev pub widest : ℕ
widest = 2 ^ 63

-- the sizes of symbols
abbrev pub wide : ℕ → ℤ
wide j = pos (2 ^ 63)

abbrev pub nothing : ℕ → ℤ
nothing j = pos 0

-- ---- small numbers

small_size : (c : ℤ) → IsSmall c → size_of_number c ≡ pos (nat_abs c)
small_size c h = ap (λ b. cond b (pos (nat_abs c)) (pos (suc (2 ^ 40)))) (le-leb (nat_abs c) (2 ^ 40) (omega (arith, ints, h)))

small_place : (cs : List ℤ) (k : ℕ) → Each IsSmall cs → IsSmall (get_or cs k (pos 0))
small_place [] k h = omega (arith, ints)
small_place (c ∷ cs) zero h = h.0
small_place (c ∷ cs) (suc k) h = small_place cs k h.1

small_symbol : (ts : List (ℕ × ℤ)) (j : ℕ) → Each (λ (t : ℕ × ℤ). IsSmall t.1) ts → IsSmall (coefficient_in ts j)
small_symbol [] j h = omega (arith, ints)
small_symbol (t ∷ ts) j h = by (t.0 == j) (small_symbol ts j h.1)
  where
    by : (b : Bool) → IsSmall (coefficient_in ts j) → IsSmall (cond b t.1 (coefficient_in ts j))
    by true r = h.0
    by false r = r

-- ---- products

abbrev pub sizes : ℕ → ℕ → (ℕ → ℤ) → ℕ
sizes zero j c = 0
sizes (suc n) j c = nat_abs (c j) * 2 ^ 63 + sizes n (j + 1) c

products_most : (n j : ℕ) (c x : ℕ → ℤ) → ((i : ℕ) → nat_abs (x i) ≤ 2 ^ 63) → nat_abs (products n j c x) ≤ sizes n j c
products_most zero j c x h = omega arith
products_most (suc n) j c x h =
    let sum = abs-sum (c j *ℤ x j) (products n (j + 1) c x) in
    let one = abs-product (c j) (x j) in
    let most = smaller (nat_abs (c j)) (nat_abs (c j)) (nat_abs (x j)) (2 ^ 63) (omega arith) (h j) in
    let rest = products_most n (j + 1) c x h in
    omega (arith, sum, one, most, rest)

products_wide : (n j : ℕ) (c d : ℕ → ℤ) → ((i : ℕ) → d i ≡ pos (nat_abs (c i))) → products n j d wide ≡ pos (sizes n j c)
products_wide zero j c d h = refl
products_wide (suc n) j c d h = ap₂ (λ (x y : ℤ). x *ℤ pos (2 ^ 63) +ℤ y) (h j) (products_wide n (j + 1) c d h)

-- ---- forms

zero_at : (k : ℕ) → slice_index_or zero_loops k (pos 0) ≡ pos 0
zero_at zero = refl
zero_at (suc zero) = refl
zero_at (suc (suc zero)) = refl
zero_at (suc (suc (suc zero))) = refl
zero_at (suc (suc (suc (suc zero)))) = refl
zero_at (suc (suc (suc (suc (suc zero))))) = refl
zero_at (suc (suc (suc (suc (suc (suc zero)))))) = refl
zero_at (suc (suc (suc (suc (suc (suc (suc k))))))) = refl

front_zeros : (z : ℤ) → pos 0 +ℤ z ≡ z
front_zeros z = omega (arith, ints)

module _ (n : ℕ) where
  abbrev pub Number : (ℕ → ℤ) → (ℕ → ℤ) → Affine → ℤ
  Number F G a = number_of_form n F G a

  abbrev pub symbols_part : (ℕ → ℤ) → Affine → ℤ
  symbols_part G a = products n 0 (λ j. number_of_place a (place.Symbol j)) G

  pub loopless : (F G : ℕ → ℤ) (ts : List (ℕ × ℤ)) (z : ℤ) → Number F G (record { loops = zero_loops; syms = ts; constant = z }) ≡ products n 0 (λ j. coefficient_in ts j) G +ℤ z
  loopless F G ts z =
      ap (λ x. x +ℤ (products n 0 (λ j. coefficient_in ts j) G +ℤ z)) (products-alike 7 0 (λ k. slice_index_or zero_loops k (pos 0)) (λ k. pos 0) F (λ k m. zero_at k) ∙ products-zero 7 0 F)
      ∙ front_zeros (products n 0 (λ j. coefficient_in ts j) G +ℤ z)

  no_part : (G : ℕ → ℤ) → products n 0 (λ j. coefficient_in no_symbols j) G ≡ pos 0
  no_part G = products-alike n 0 (λ j. coefficient_in no_symbols j) (λ j. pos 0) G (λ j m. none_among_zeros 8 j) ∙ products-zero n 0 G

  number_number : (F G : ℕ → ℤ) (z : ℤ) → Number F G (number_form z) ≡ z
  number_number F G z = loopless F G no_symbols z ∙ (ap (λ x. x +ℤ z) (no_part G) ∙ front_zeros z)

  one : (F : ℕ → ℤ) (k : ℕ) → k < 7 → products 7 0 (λ j. number_of_place (loop_form k) (place.Loop j)) F ≡ F k
  one F zero h = omega (arith, ints)
  one F (suc zero) h = omega (arith, ints)
  one F (suc (suc zero)) h = omega (arith, ints)
  one F (suc (suc (suc zero))) h = omega (arith, ints)
  one F (suc (suc (suc (suc zero)))) h = omega (arith, ints)
  one F (suc (suc (suc (suc (suc zero))))) h = omega (arith, ints)
  one F (suc (suc (suc (suc (suc (suc zero)))))) h = omega (arith, ints)
  one F (suc (suc (suc (suc (suc (suc (suc k))))))) h = absurd (omega (arith, h))

  number_loop : (F G : ℕ → ℤ) (k : ℕ) → k < 7 → Number F G (loop_form k) ≡ F k
  number_loop F G k h = ap₂ (λ x y. x +ℤ (y +ℤ pos 0)) (one F k h) (no_part G) ∙ zeros (F k)
    where
      zeros : (z : ℤ) → z +ℤ (pos 0 +ℤ pos 0) ≡ z
      zeros z = omega (arith, ints)

  sum_append : (F G : ℕ → ℤ) (ts us : List Multiple) → sum_of_numbers n F G (ts ++ us) ≡ sum_of_numbers n F G ts +ℤ sum_of_numbers n F G us
  sum_append F G [] us = sym (front_zeros (sum_of_numbers n F G us))
  sum_append F G (t ∷ ts) us = ap (λ z. t.times *ℤ Number F G t.form +ℤ z) (sum_append F G ts us) ∙ grouped (t.times *ℤ Number F G t.form) (sum_of_numbers n F G ts) (sum_of_numbers n F G us)
    where
      grouped : (a b c : ℤ) → a +ℤ (b +ℤ c) ≡ (a +ℤ b) +ℤ c
      grouped a b c = omega (arith, ints)

  -- ---- the size of a form's symbols and constant

  abbrev pub rest_size : Affine → ℕ
  rest_size a = sizes n 0 (λ j. number_of_place a (place.Symbol j)) + nat_abs a.constant

  rest_most : (F G : ℕ → ℤ) (a : Affine) → ((i : ℕ) → nat_abs (G i) ≤ 2 ^ 63) → nat_abs (Number F G (without_loops a)) ≤ rest_size a
  rest_most F G a h =
      let same = loopless F G a.syms a.constant in
      let part = products_most n 0 (λ j. number_of_place a (place.Symbol j)) G h in
      let sum = abs-sum (symbols_part G a) a.constant in
      subst (λ z. nat_abs z ≤ rest_size a) (sym same) (omega (arith, part, sum))

  -- at most eight symbols
  sized_places : (ts : List (ℕ × ℤ)) → length ts ≤ 8 → Each (λ (t : ℕ × ℤ). IsSmall t.1) ts → (j : ℕ)
      → coefficient_in (sized_terms ts 0 ∷ sized_terms ts 1 ∷ sized_terms ts 2 ∷ sized_terms ts 3 ∷ sized_terms ts 4 ∷ sized_terms ts 5 ∷ sized_terms ts 6 ∷ sized_terms ts 7 ∷ []) j ≡ pos (nat_abs (coefficient_in ts j))
  sized_places ts few small j = listed 8 0 ts few small
    where
      from : ℕ → ℕ → List (ℕ × ℤ) → List (ℕ × ℤ)
      from zero k us = []
      from (suc m) k us = sized_terms us k ∷ from m (suc k) us

      shifted : (m k : ℕ) (u : ℕ × ℤ) (us : List (ℕ × ℤ)) → from m (suc k) (u ∷ us) ≡ from m k us
      shifted zero k u us = refl
      shifted (suc m) k u us = ap (λ ws. sized_terms us k ∷ ws) (shifted m (suc k) u us)

      none : (m k : ℕ) → coefficient_in (from m k []) j ≡ pos 0
      none zero k = refl
      none (suc m) k = by (0 == j) (none m (suc k))
        where
          by : (b : Bool) → coefficient_in (from m (suc k) []) j ≡ pos 0 → cond b (pos 0) (coefficient_in (from m (suc k) []) j) ≡ pos 0
          by true r = refl
          by false r = r

      listed : (m d : ℕ) (us : List (ℕ × ℤ)) → length us ≤ m → Each (λ (t : ℕ × ℤ). IsSmall t.1) us → coefficient_in (from m 0 us) j ≡ pos (nat_abs (coefficient_in us j))
      listed m d [] l s = none m 0
      listed zero d (u ∷ us) l s = absurd (omega (arith, l))
      listed (suc m) d (u ∷ us) l s =
          by (u.0 == j) (ap (λ ws. coefficient_in ws j) (shifted m 0 u us) ∙ listed m d us (omega (arith, l)) s.1)
        where
          by : (b : Bool) → coefficient_in (from m 1 (u ∷ us)) j ≡ pos (nat_abs (coefficient_in us j)) → cond b (size_of_number u.1) (coefficient_in (from m 1 (u ∷ us)) j) ≡ pos (nat_abs (cond b u.1 (coefficient_in us j)))
          by true r = small_size u.1 s.0
          by false r = r

  rest_wide : (a : Affine) → IsSmallForm a → IsSized a → Number nothing wide (sized a) ≡ pos (rest_size a)
  unfolding sized
  rest_wide a s z =
      loopless nothing wide (sized_terms a.syms 0 ∷ sized_terms a.syms 1 ∷ sized_terms a.syms 2 ∷ sized_terms a.syms 3 ∷ sized_terms a.syms 4 ∷ sized_terms a.syms 5 ∷ sized_terms a.syms 6 ∷ sized_terms a.syms 7 ∷ []) (size_of_number a.constant)
      ∙ ap₂ (λ x y. x +ℤ y) (products_wide n 0 (λ j. number_of_place a (place.Symbol j)) (λ j. coefficient_in (sized_terms a.syms 0 ∷ sized_terms a.syms 1 ∷ sized_terms a.syms 2 ∷ sized_terms a.syms 3 ∷ sized_terms a.syms 4 ∷ sized_terms a.syms 5 ∷ sized_terms a.syms 6 ∷ sized_terms a.syms 7 ∷ []) j)
      (λ j. sized_places a.syms z.symbols s.symbols j)) (small_size a.constant s.constant)

  -- ---- outer loops

  -- the sizes fs have these numbers
  abbrev pub AreSizes : List Affine → List ℕ → Type 0
  AreSizes [] [] = Unit {0}
  AreSizes (f ∷ fs) (s ∷ ss) = (Number nothing wide f ≡ pos s) × AreSizes fs ss
  AreSizes _ _ = ⊥

  abbrev pub loops_size : ℕ → Affine → List ℕ → ℕ
  loops_size k a [] = 0
  loops_size k a (s ∷ ss) = nat_abs (number_of_place a (place.Loop k)) * cond (int_lt (pos 0) (number_of_place a (place.Loop k))) s 1 + loops_size (k + 1) a ss

  one_wide : (c : ℤ) (f : Affine) (s : ℕ) → IsSmall c → Number nothing wide f ≡ pos s → (greatest_size c f).times *ℤ Number nothing wide (greatest_size c f).form ≡ pos (nat_abs c * cond (int_lt (pos 0) c) s 1)
  unfolding greatest_size
  one_wide c f s h e = ap (λ x. x *ℤ Number nothing wide (cond (int_lt (pos 0) c) f (number_form (pos 1)))) (small_size c h) ∙ by (int_lt (pos 0) c)
    where
      by : (b : Bool) → pos (nat_abs c) *ℤ Number nothing wide (cond b f (number_form (pos 1))) ≡ pos (nat_abs c * cond b s 1)
      by true = ap (λ x. pos (nat_abs c) *ℤ x) e
      by false = ap (λ x. pos (nat_abs c) *ℤ x) (number_number nothing wide (pos 1))

  loops_wide : (k : ℕ) (a : Affine) (fs : List Affine) (ss : List ℕ) → Each IsSmall a.loops → AreSizes fs ss → sum_of_numbers n nothing wide (sizes_from k a fs) ≡ pos (loops_size k a ss)
  loops_wide k a [] [] h r = refl
  loops_wide k a [] (s ∷ ss) h r = absurd r
  loops_wide k a (f ∷ fs) [] h r = absurd r
  loops_wide k a (f ∷ fs) (s ∷ ss) h r =
      ap₂ (λ x y. x +ℤ y) (one_wide (number_of_place a (place.Loop k)) f s (small_place a.loops k h) r.0) (loops_wide (k + 1) a fs ss h r.1)

  module _ (F G : ℕ → ℤ) where
    -- the extents, from the k-th on, have no larger numbers
    abbrev pub Stand : ℕ → List Trip → List ℕ → Type 0
    Stand k [] [] = Unit {0}
    Stand k (t ∷ ts) (s ∷ ss) = (nat_abs (Number F G (extent_form k t)) ≤ s) × Stand (k + 1) ts ss
    Stand k _ _ = ⊥

    one_most : (c : ℤ) (k : ℕ) (t : Trip) (s : ℕ) → nat_abs (Number F G (extent_form k t)) ≤ s → nat_abs ((greatest c k t).times *ℤ Number F G (greatest c k t).form) ≤ nat_abs c * cond (int_lt (pos 0) c) s 1
    unfolding greatest
    one_most c k t s h = by (int_lt (pos 0) c)
      where
        by : (b : Bool) → nat_abs (c *ℤ Number F G (cond b (extent_form k t) (number_form (pos 1)))) ≤ nat_abs c * cond b s 1
        by true = let e = abs-product c (Number F G (extent_form k t)) in let m = smaller (nat_abs c) (nat_abs c) (nat_abs (Number F G (extent_form k t))) s (omega arith) h in omega (arith, e, m)
        by false =
            let e = abs-product c (pos 1) in
            subst (λ z. nat_abs (c *ℤ z) ≤ nat_abs c * 1) (sym (number_number F G (pos 1))) (omega (arith, e))

    loops_most : (k : ℕ) (a : Affine) (ts : List Trip) (ss : List ℕ) → Stand k ts ss → nat_abs (sum_of_numbers n F G (greatest_from k a ts)) ≤ loops_size k a ss
    loops_most k a [] [] h = omega arith
    loops_most k a [] (s ∷ ss) h = absurd h
    loops_most k a (t ∷ ts) [] h = absurd h
    loops_most k a (t ∷ ts) (s ∷ ss) h =
        let first = one_most (number_of_place a (place.Loop k)) k t s h.0 in
        let rest = loops_most (k + 1) a ts ss h.1 in
        let sum = abs-sum ((greatest (number_of_place a (place.Loop k)) k t).times *ℤ Number F G (greatest (number_of_place a (place.Loop k)) k t).form) (sum_of_numbers n F G (greatest_from (k + 1) a ts)) in
        omega (arith, first, rest, sum)

  -- ---- one extent more

  abbrev pub next_size : Affine → List ℕ → ℕ
  next_size b ss = loops_size 0 b ss + rest_size b

  single : (z : ℤ) → pos 1 *ℤ z +ℤ pos 0 ≡ z
  single z = omega (arith, ints)

  pub size_is : (b f : Affine) (fs : List Affine) (ss : List ℕ) → IsSmallForm b → IsSized b → AreSizes fs ss → combination n (sizes_from 0 b fs ++ times (pos 1) (sized b) ∷ []) ≡ Some f → Number nothing wide f ≡ pos (next_size b ss)
  size_is b f fs ss s z h e =
      combination_has_number n (sizes_from 0 b fs ++ times (pos 1) (sized b) ∷ []) f nothing wide e
      ∙ (sum_append nothing wide (sizes_from 0 b fs) (times (pos 1) (sized b) ∷ [])
      ∙ ap₂ (λ x y. x +ℤ y) (loops_wide 0 b fs ss s.loops h) (single (Number nothing wide (sized b)) ∙ rest_wide b s z))

  number_most : (F G : ℕ → ℤ) (b a : Affine) (ts : List Trip) (ss : List ℕ) → ((i : ℕ) → nat_abs (G i) ≤ 2 ^ 63) → Stand F G 0 ts ss → combination n (greatest_from 0 b ts ++ times (pos 1) (without_loops b) ∷ []) ≡ Some a
      → nat_abs (Number F G a) ≤ next_size b ss
  number_most F G b a ts ss small h e =
      let whole = combination_has_number n (greatest_from 0 b ts ++ times (pos 1) (without_loops b) ∷ []) a F G e ∙ (sum_append F G (greatest_from 0 b ts) (times (pos 1) (without_loops b) ∷ []) ∙ ap (λ z. sum_of_numbers n F G (greatest_from 0 b ts) +ℤ z) (single (Number F G (without_loops b)))) in
      let first = loops_most F G 0 b ts ss h in
      let last = rest_most F G b small in
      let sum = abs-sum (sum_of_numbers n F G (greatest_from 0 b ts)) (Number F G (without_loops b)) in
      subst (λ z. nat_abs z ≤ next_size b ss) (sym whole) (omega (arith, first, last, sum))

  -- folded where it is constant
  pub trip_most : (F G : ℕ → ℤ) (b a : Affine) (d : ℕ) (ts : List Trip) (ss : List ℕ) → ((i : ℕ) → nat_abs (G i) ≤ 2 ^ 63) → Stand F G 0 ts ss → combination n (greatest_from 0 b ts ++ times (pos 1) (without_loops b) ∷ []) ≡ Some a
      → nat_abs a.constant ≤ next_size b ss → nat_abs (Number F G (trip_of a (pos d)).top) ≤ next_size b ss
  trip_most F G b a d ts ss small h e constant = by (is_constant a)
    where
      by : (c : Bool) → nat_abs (Number F G (cond {A = Trip} c (record { top = number_form (int_div a.constant (pos d)); by = pos 1 }) (record { top = a; by = pos d })).top) ≤ next_size b ss
      by true =
          let less = abs_quotient a.constant d in
          subst (λ z. nat_abs z ≤ next_size b ss) (sym (number_number F G (int_div a.constant (pos d)))) (omega (arith, less, constant))
      by false = number_most F G b a ts ss small h e

  -- its constant is its number where nothing else counts
  pub constant_most : (b a : Affine) (ts : List Trip) (ss : List ℕ) → Stand nothing nothing 0 ts ss → combination n (greatest_from 0 b ts ++ times (pos 1) (without_loops b) ∷ []) ≡ Some a → nat_abs a.constant ≤ next_size b ss
  constant_most b a ts ss h e =
      let most = number_most nothing nothing b a ts ss (λ i. omega arith) h e in
      subst (λ z. nat_abs z ≤ next_size b ss) alone most
    where
      nought : (m j : ℕ) (c : ℕ → ℤ) → products m j c nothing ≡ pos 0
      nought zero j c = refl
      nought (suc m) j c = ap (λ y. c j *ℤ pos 0 +ℤ y) (nought m (j + 1) c) ∙ zeros (c j)
        where
          zeros : (z : ℤ) → z *ℤ pos 0 +ℤ pos 0 ≡ pos 0
          zeros z = omega (arith, ints)

      alone : Number nothing nothing a ≡ a.constant
      alone = ap₂ (λ x y. x +ℤ (y +ℤ a.constant)) (nought 7 0 (λ k. number_of_place a (place.Loop k))) (nought n 0 (λ j. number_of_place a (place.Symbol j))) ∙ zeros a.constant
        where
          zeros : (z : ℤ) → pos 0 +ℤ (pos 0 +ℤ z) ≡ z
          zeros z = omega (arith, ints)

  -- an extent in its place is its form, or counts as the loop
  pub placed_most : (F G : ℕ → ℤ) (k : ℕ) (t : Trip) (s : ℕ) → k < 7 → nat_abs (Number F G t.top) ≤ s → nat_abs (F k) ≤ s → nat_abs (Number F G (extent_form k t)) ≤ s
  placed_most F G k t s few top at_place = by (is_undivided t)
    where
      by : (b : Bool) → nat_abs (Number F G (cond b t.top (loop_form k))) ≤ s
      by true = top
      by false = subst (λ z. nat_abs z ≤ s) (sym (number_loop F G k few)) at_place
