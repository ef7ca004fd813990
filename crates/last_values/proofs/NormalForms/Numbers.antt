-- The number of a combination.
use mathlib.Core.Path.{ap₂}
use Rattle.std.proofs.Common.{◌≡◌, refl, sym, ap, ◌∙◌, subst, ℕ, zero, suc, ◌+◌, ◌-◌, ◌≤◌, ◌<◌, ℤ, pos, ◌+ℤ◌, ◌*ℤ◌, Bool, true, false, cond, ◌&&◌, List, [], ◌∷◌, ◌++◌, replicate, get_or, set, length, Option, Some, None, arith}
use Rattle.std.specs.Prelude.{◌==◌, nat_lt}
use Rattle.std.proofs.Math.Numerals.{add-one}
use Rattle.std.proofs.lemmas.Bool.{eqb-true, eq-eqb}
use Rattle.std.specs.List.{list_all}
use Rattle.std.specs.Ordering.{int_eq}
use Rattle.std.proofs.lemmas.Bool.Decides.{Decides-int_eq}
use Rattle.std.proofs.lemmas.Int.{ints}
use Rattle.std.proofs.Math.IntN.{zero-*ℤ, *ℤ-zero, +ℤ_idl}
use Rattle.linear_forms.specs.Linear.{is_small, all_small, not_zero}
use Rattle.linear_forms.specs.Merging.{all_pushed}
use Rattle.linear_forms.specs.Pushing.{small_or_none, pushed, then_pushed}
use Rattle.linear_forms.specs.Places.{padded, terms_from}
use Rattle.linear_forms.specs.declared.terms.Terms.{Terms}
use Rattle.linear_forms.proofs.Merges.{Holds, Outcome, pushes, then_same}
use Rattle.linear_forms.proofs.Ring.{spread, spread_left, gathered}
use Rattle.linear_forms.proofs.Sums.{small_is}
use Rattle.subscripts.specs.declared.affine.Affine.{Affine}
use Rattle.last_values.specs.declared.normal_forms.combinations.Multiple.{Multiple}
use Rattle.last_values.specs.declared.normal_forms.places.Place.{Place}
use Rattle.last_values.specs.declared.normal_forms.places.Place.TheVariants as place
use Rattle.last_values.specs.normal_forms.Combinations.{coefficient_in, number_of_place, combined_at, with_number, all_within, seven, no_terms, with_symbol_terms, form_with, has_small_factor, combination}
use Rattle.last_values.specs.normal_forms.Numbers.{products, number_of_form, sum_of_numbers, values_from, CombinationHasNumber}

-- ---- products

four : (p q r t : ℤ) → (p +ℤ q) +ℤ (r +ℤ t) ≡ (p +ℤ r) +ℤ (q +ℤ t)
four p q r t = omega (arith, ints)

pub products-alike : (n j : ℕ) (c d x : ℕ → ℤ) → ((i : ℕ) → i < j + n → c i ≡ d i) → products n j c x ≡ products n j d x
products-alike zero j c d x h = refl
products-alike (suc n) j c d x h =
    ap₂ (λ p q. p *ℤ x j +ℤ q) (h j (omega arith)) (products-alike n (j + 1) c d x (λ i k. h i (omega (arith, k))))

pub products-zero : (n j : ℕ) (x : ℕ → ℤ) → products n j (λ i. pos 0) x ≡ pos 0
products-zero zero j x = refl
products-zero (suc n) j x = ap₂ (λ p q. p +ℤ q) (zero-*ℤ (x j)) (products-zero n (j + 1) x)

products-sum : (n j : ℕ) (k : ℤ) (c d x : ℕ → ℤ) → products n j (λ i. k *ℤ c i +ℤ d i) x ≡ k *ℤ products n j c x +ℤ products n j d x
products-sum zero j k c d x = sym (ap (λ z. z +ℤ pos 0) (*ℤ-zero k))
products-sum (suc n) j k c d x =
    ap₂ (λ p q. p +ℤ q) (spread (k *ℤ c j) (d j) (x j) ∙ ap (λ z. z +ℤ d j *ℤ x j) (gathered k (c j) (x j))) (products-sum n (j + 1) k c d x)
    ∙ (four (k *ℤ (c j *ℤ x j)) (d j *ℤ x j) (k *ℤ products n (j + 1) c x) (products n (j + 1) d x)
    ∙ ap (λ z. z +ℤ (d j *ℤ x j +ℤ products n (j + 1) d x)) (sym (spread_left k (c j *ℤ x j) (products n (j + 1) c x))))

-- ---- the sum, place by place

module _ (n : ℕ) (iterations values : ℕ → ℤ) where
  abbrev loops_at : List Multiple → ℤ
  loops_at ts = products 7 0 (λ k. combined_at ts (place.Loop k)) iterations

  abbrev symbols_at : List Multiple → ℤ
  symbols_at ts = products n 0 (λ j. combined_at ts (place.Symbol j)) values

  six : (k p q r s t u : ℤ) → (k *ℤ p +ℤ s) +ℤ ((k *ℤ q +ℤ t) +ℤ (k *ℤ r +ℤ u)) ≡ k *ℤ (p +ℤ (q +ℤ r)) +ℤ (s +ℤ (t +ℤ u))
  six k p q r s t u =
      let a = spread_left k p (q +ℤ r) in
      let b = spread_left k q r in
      let kp = k *ℤ p in
      let kq = k *ℤ q in
      let kr = k *ℤ r in
      sorted kp kq kr s t u ∙ sym (ap (λ z. z +ℤ (s +ℤ (t +ℤ u))) (a ∙ ap (λ z. kp +ℤ z) b))
    where
      sorted : (kp kq kr s t u : ℤ) → (kp +ℤ s) +ℤ ((kq +ℤ t) +ℤ (kr +ℤ u)) ≡ (kp +ℤ (kq +ℤ kr)) +ℤ (s +ℤ (t +ℤ u))
      sorted kp kq kr s t u = omega (arith, ints)

  sum_by_places : (ts : List Multiple) → loops_at ts +ℤ (symbols_at ts +ℤ combined_at ts place.Constant) ≡ sum_of_numbers n iterations values ts
  sum_by_places [] = ap₂ (λ p q. p +ℤ (q +ℤ pos 0)) (products-zero 7 0 iterations) (products-zero n 0 values)
  sum_by_places (t ∷ ts) =
      ap₂ (λ p q. p +ℤ (q +ℤ (t.times *ℤ number_of_place t.form place.Constant +ℤ combined_at ts place.Constant)))
      (products-sum 7 0 t.times (λ k. number_of_place t.form (place.Loop k)) (λ k. combined_at ts (place.Loop k)) iterations)
      (products-sum n 0 t.times (λ j. number_of_place t.form (place.Symbol j)) (λ j. combined_at ts (place.Symbol j)) values)
      ∙ (six t.times (products 7 0 (λ k. number_of_place t.form (place.Loop k)) iterations) (products n 0 (λ j. number_of_place t.form (place.Symbol j)) values) (number_of_place t.form place.Constant)
      (loops_at ts) (symbols_at ts) (combined_at ts place.Constant)
      ∙ ap (λ z. t.times *ℤ number_of_form n iterations values t.form +ℤ z) (sum_by_places ts))

-- ---- what a combination has at each place

all_within-is : (zs ys : List ℤ) → all_within zs ≡ Some ys → ys ≡ zs
all_within-is [] ys h = cc
all_within-is (z ∷ zs) ys h = by (λ vs g. all_within-is zs vs g) (small_or_none z) refl (all_within zs) refl h
  where
    by : ((vs : List ℤ) → all_within zs ≡ Some vs → vs ≡ zs)
        → (o : Option ℤ) → small_or_none z ≡ o → (p : Option (List ℤ)) → all_within zs ≡ p → with_number o p ≡ Some ys → ys ≡ z ∷ zs
    by more None e p g k = cc
    by more (Some v) e None g k = cc
    by more (Some v) e (Some vs) g k =
        let same : ys ≡ v ∷ vs = cc in
        same ∙ ap₂ (λ a l. a ∷ l) (small_is z v (sym e)).0 (more vs g)

abbrev more_room : ℕ → ℤ → Terms → Option Terms
more_room j z t = cond (is_small z && nat_lt t.used 8) (Some (record { at = set t.at t.used (j, z); used = t.used + 1 })) None

symbols-pushed : (f : ℕ → ℤ) (n j : ℕ) (t : Terms) → with_symbol_terms f n j t ≡ all_pushed (terms_from j (values_from n j f)) t
symbols-pushed f zero j t = refl
symbols-pushed f (suc n) j t =
    by (λ u. symbols-pushed f n (j + 1) u ∙ ap (λ k. all_pushed (terms_from k (values_from n (j + 1) f)) u) (add-one j)) (int_eq (f j) (pos 0)) refl
  where
    by : ((u : Terms) → with_symbol_terms f n (j + 1) u ≡ all_pushed (terms_from (suc j) (values_from n (j + 1) f)) u) → (b : Bool) → int_eq (f j) (pos 0) ≡ b
        → then_pushed (pushed j (f j) t) (with_symbol_terms f n (j + 1)) ≡ all_pushed (cond b (terms_from (suc j) (values_from n (j + 1) f)) ((j, f j) ∷ terms_from (suc j) (values_from n (j + 1) f))) t
    by later true e = ap (λ c. then_pushed (cond c (Some t) (more_room j (f j) t)) (with_symbol_terms f n (j + 1))) e ∙ later t
    by later false e = then_same (pushed j (f j) t) (with_symbol_terms f n (j + 1)) (all_pushed (terms_from (suc j) (values_from n (j + 1) f))) later

-- ---- looking a coefficient up

abbrev pub Zeros : ℕ → List (ℕ × ℤ)
Zeros m = replicate m (0, pos 0)

pub none_among_zeros : (m x : ℕ) → coefficient_in (Zeros m) x ≡ pos 0
none_among_zeros zero x = refl
none_among_zeros (suc m) x = by (0 == x) (none_among_zeros m x)
  where
    by : (b : Bool) → coefficient_in (Zeros m) x ≡ pos 0 → cond b (pos 0) (coefficient_in (Zeros m) x) ≡ pos 0
    by true h = refl
    by false h = h

other : (o x : ℕ) → x < o → (o == x) ≡ false
other o x h = by (o == x) refl
  where
    by : (b : Bool) → (o == x) ≡ b → b ≡ false
    by true e = let same = eqb-true o x e in absurd (omega (arith, same, h))
    by false e = refl

-- a place before the first one
none_before : (o : ℕ) (es : List ℤ) (m x : ℕ) → x < o → coefficient_in (terms_from o es ++ Zeros m) x ≡ pos 0
none_before o [] m x h = none_among_zeros m x
none_before o (e ∷ es) m x h = by (int_eq e (pos 0)) (none_before (suc o) es m x (omega (arith, h)))
  where
    by : (b : Bool) → coefficient_in (terms_from (suc o) es ++ Zeros m) x ≡ pos 0
        → coefficient_in (cond b (terms_from (suc o) es) ((o, e) ∷ terms_from (suc o) es) ++ Zeros m) x ≡ pos 0
    by true k = k
    by false k = ap (λ b. cond b e (coefficient_in (terms_from (suc o) es ++ Zeros m) x)) (other o x h) ∙ k

pub looked_up : (o : ℕ) (es : List ℤ) (m i x : ℕ) → x ≡ o + i → coefficient_in (terms_from o es ++ Zeros m) x ≡ get_or es i (pos 0)
looked_up o [] m i x h = none_among_zeros m x
looked_up o (e ∷ es) m zero x h = by (int_eq e (pos 0)) refl
  where
    here : (o == x) ≡ true
    here = eq-eqb o x (omega (arith, h))

    by : (b : Bool) → int_eq e (pos 0) ≡ b → coefficient_in (cond b (terms_from (suc o) es) ((o, e) ∷ terms_from (suc o) es) ++ Zeros m) x ≡ e
    by true k = none_before (suc o) es m x (omega (arith, h)) ∙ sym ((Decides-int_eq e (pos 0)).0 k)
    by false k = ap (λ b. cond b e (coefficient_in (terms_from (suc o) es ++ Zeros m) x)) here
looked_up o (e ∷ es) m (suc i) x h = by (int_eq e (pos 0)) (looked_up (suc o) es m i x (omega (arith, h)))
  where
    there : (o == x) ≡ false
    there = by_cases (o == x) refl
      where
        by_cases : (b : Bool) → (o == x) ≡ b → b ≡ false
        by_cases true k = let same = eqb-true o x k in absurd (omega (arith, same, h))
        by_cases false k = refl

    by : (b : Bool) → coefficient_in (terms_from (suc o) es ++ Zeros m) x ≡ get_or es i (pos 0)
        → coefficient_in (cond b (terms_from (suc o) es) ((o, e) ∷ terms_from (suc o) es) ++ Zeros m) x ≡ get_or es i (pos 0)
    by true k = k
    by false k = ap (λ b. cond b e (coefficient_in (terms_from (suc o) es ++ Zeros m) x)) there ∙ k

placed : (n j i : ℕ) (f : ℕ → ℤ) → i < n → get_or (values_from n j f) i (pos 0) ≡ f (j + i)
placed zero j i f h = absurd (omega (arith, h))
placed (suc n) j zero f h = ap f (omega arith)
placed (suc n) j (suc i) f h = placed n (j + 1) i f (omega (arith, h)) ∙ ap f (omega arith)

-- the terms that were pushed have the coefficients
symbols-are : (f : ℕ → ℤ) (n : ℕ) (t : Terms) → with_symbol_terms f n 0 no_terms ≡ Some t → (j : ℕ) → j < n → coefficient_in t.at j ≡ f j
symbols-are f n t h j k =
    let es : List ℤ = values_from n 0 f in
    let all = pushes 0 es [] no_terms (record { at = refl; used = refl }) (omega arith) in
    let made : all_pushed (terms_from 0 es) no_terms ≡ Some t = sym (symbols-pushed f n 0 no_terms) ∙ h in
    let holds = (by (all_pushed (terms_from 0 es) no_terms) made all) in
    ap (λ ts. coefficient_in ts j) holds.at
    ∙ (looked_up 0 es (8 - length (terms_from 0 es)) j j (omega arith) ∙ (placed n 0 j f k ∙ ap f (omega arith)))
  where
    by : (o : Option Terms) → o ≡ Some t → Outcome 0 (values_from n 0 f) [] o → Holds (terms_from 0 (values_from n 0 f)) t
    by None e g = cc
    by (Some u) e g = let same : u ≡ t = cc in subst (λ v. Holds (terms_from 0 (values_from n 0 f)) v) same g.0

-- ---- the law

module _ (n : ℕ) (ts : List Multiple) (a : Affine) where
  pub record Places : Type 0 where
    pub loops : (k : ℕ) → k < 7 → number_of_place a (place.Loop k) ≡ combined_at ts (place.Loop k)
    pub symbols : (j : ℕ) → j < n → number_of_place a (place.Symbol j) ≡ combined_at ts (place.Symbol j)
    pub constant : number_of_place a place.Constant ≡ combined_at ts place.Constant

  seven-at : (f : ℕ → ℤ) (k : ℕ) → k < 7 → get_or (seven f) k (pos 0) ≡ f k
  seven-at f zero h = refl
  seven-at f (suc zero) h = refl
  seven-at f (suc (suc zero)) h = refl
  seven-at f (suc (suc (suc zero))) h = refl
  seven-at f (suc (suc (suc (suc zero)))) h = refl
  seven-at f (suc (suc (suc (suc (suc zero))))) h = refl
  seven-at f (suc (suc (suc (suc (suc (suc zero)))))) h = refl
  seven-at f (suc (suc (suc (suc (suc (suc (suc k))))))) h = absurd (omega (arith, h))

  parted : (ls : Option (List ℤ)) → all_within (seven (λ k. combined_at ts (place.Loop k))) ≡ ls
      → (o : Option Terms) → with_symbol_terms (λ j. combined_at ts (place.Symbol j)) n 0 no_terms ≡ o
      → (z : Option ℤ) → small_or_none (combined_at ts place.Constant) ≡ z → form_with ls o z ≡ Some a → Places
  parted None e o f z g h = cc
  parted (Some ls) e None f z g h = cc
  parted (Some ls) e (Some t) f None g h = cc
  parted (Some ls) e (Some t) f (Some z) g h =
      let same : a ≡ record { loops = ls; syms = t.at; constant = z } = cc in
      record {
        loops = λ k m. ap (λ (b : Affine). get_or b.loops k (pos 0)) same ∙ (ap (λ l. get_or l k (pos 0)) (all_within-is (seven (λ k. combined_at ts (place.Loop k))) ls e) ∙ seven-at (λ k. combined_at ts (place.Loop k)) k m);
        symbols = λ j m. ap (λ (b : Affine). coefficient_in b.syms j) same ∙ symbols-are (λ j. combined_at ts (place.Symbol j)) n t f j m;
        constant = ap (λ (b : Affine). b.constant) same ∙ (small_is (combined_at ts place.Constant) z (sym g)).0;
      }

  pub places_of : combination n ts ≡ Some a → Places
  unfolding combination
  places_of h = by (list_all has_small_factor ts) h
    where
      by : (b : Bool) → cond b (form_with (all_within (seven (λ k. combined_at ts (place.Loop k)))) (with_symbol_terms (λ j. combined_at ts (place.Symbol j)) n 0 no_terms) (small_or_none (combined_at ts place.Constant))) None ≡ Some a → Places
      by true g = parted (all_within (seven (λ k. combined_at ts (place.Loop k)))) refl (with_symbol_terms (λ j. combined_at ts (place.Symbol j)) n 0 no_terms) refl (small_or_none (combined_at ts place.Constant)) refl g
      by false g = cc

pub combination_has_number : CombinationHasNumber
combination_has_number n ts a iterations values h =
    let p = places_of n ts a h in
    ap₂ (λ x y. x +ℤ y) (products-alike 7 0 (λ k. number_of_place a (place.Loop k)) (λ k. combined_at ts (place.Loop k)) iterations (λ k m. p.loops k (omega (arith, m))))
    (ap₂ (λ x y. x +ℤ y) (products-alike n 0 (λ j. number_of_place a (place.Symbol j)) (λ j. combined_at ts (place.Symbol j)) values (λ j m. p.symbols j (omega (arith, m)))) p.constant)
    ∙ sum_by_places n iterations values ts
