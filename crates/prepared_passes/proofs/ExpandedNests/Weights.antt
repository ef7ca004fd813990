-- Sums of values by their weights, and lists of values within sizes.
use mathlib.Core.Path.{ap₂}
use Rattle.std.proofs.Common.{◌≡◌, refl, sym, ap, ◌∙◌, subst, ℕ, zero, suc, ◌+◌, ◌≤◌, ℤ, pos, ◌+ℤ◌, ◌*ℤ◌, neg_ℤ, List, [], ◌∷◌, ◌++◌, map, length, get_or, arith}
use Rattle.std.specs.Prelude.{nat_abs}
use Rattle.std.proofs.lemmas.Int.{ints}
use Rattle.std.proofs.Math.IntN.{*ℤ_comm}
use Rattle.last_values.specs.normal_forms.Numbers.{products}
use Rattle.linear_forms.proofs.Ring.{neg_times}
use Rattle.linear_forms.specs.Linear.{weighted}
use Rattle.prepared_passes.proofs.ExpandedNests.ExtentSizes.{nothing}

-- ---- weighted lists

pub weighted_front : (front cs zs ws : List ℤ) → length front ≡ length zs → weighted (front ++ cs) zs ≡ weighted front zs
weighted_front [] [] [] ws e = refl
weighted_front [] (c ∷ cs) [] ws e = refl
weighted_front [] cs (z ∷ zs) ws e = absurd (omega (arith, e))
weighted_front (f ∷ front) cs [] ws e = absurd (omega (arith, e))
weighted_front (f ∷ front) cs (z ∷ zs) ws e = ap (λ x. f *ℤ z +ℤ x) (weighted_front front cs zs ws (omega (arith, e)))

pub weighted_past : (front zs ws : List ℤ) → length front ≡ length zs → weighted front (zs ++ ws) ≡ weighted front zs
weighted_past [] [] ws e = refl
weighted_past [] (z ∷ zs) ws e = absurd (omega (arith, e))
weighted_past (f ∷ front) [] ws e = absurd (omega (arith, e))
weighted_past (f ∷ front) (z ∷ zs) ws e = ap (λ x. f *ℤ z +ℤ x) (weighted_past front zs ws (omega (arith, e)))

pub weighted_last : (front cs zs : List ℤ) (c z : ℤ) → length front ≡ length zs → weighted (front ++ c ∷ cs) (zs ++ z ∷ []) ≡ weighted front zs +ℤ c *ℤ z
weighted_last [] cs [] c z e = ap (λ x. c *ℤ z +ℤ x) (none cs) ∙ turned (c *ℤ z)
  where
    none : (cs : List ℤ) → weighted cs [] ≡ pos 0
    none [] = refl
    none (d ∷ ds) = refl

    turned : (x : ℤ) → x +ℤ pos 0 ≡ pos 0 +ℤ x
    turned x = omega (arith, ints)
weighted_last [] cs (y ∷ zs) c z e = absurd (omega (arith, e))
weighted_last (f ∷ front) cs [] c z e = absurd (omega (arith, e))
weighted_last (f ∷ front) cs (y ∷ zs) c z e = ap (λ x. f *ℤ y +ℤ x) (weighted_last front cs zs c z (omega (arith, e))) ∙ grouped (f *ℤ y) (weighted front zs) (c *ℤ z)
  where
    grouped : (a b c : ℤ) → a +ℤ (b +ℤ c) ≡ (a +ℤ b) +ℤ c
    grouped a b c = omega (arith, ints)

neg_sum : (a b c d : ℤ) → a ≡ neg_ℤ b → c ≡ neg_ℤ d → a +ℤ c ≡ neg_ℤ (b +ℤ d)
neg_sum a b c d e f = omega (arith, ints, e, f)

times_neg : (c z : ℤ) → c *ℤ neg_ℤ z ≡ neg_ℤ (c *ℤ z)
times_neg c z = *ℤ_comm c (neg_ℤ z) ∙ (neg_times z c ∙ ap neg_ℤ (*ℤ_comm z c))

pub weighted_neg : (cs zs : List ℤ) → weighted cs (map neg_ℤ zs) ≡ neg_ℤ (weighted cs zs)
weighted_neg [] zs = refl
weighted_neg (c ∷ cs) [] = refl
weighted_neg (c ∷ cs) (z ∷ zs) = neg_sum (c *ℤ neg_ℤ z) (c *ℤ z) (weighted cs (map neg_ℤ zs)) (weighted cs zs) (times_neg c z) (weighted_neg cs zs)

pub products_neg : (n j : ℕ) (c v : ℕ → ℤ) → products n j c (λ i. neg_ℤ (v i)) ≡ neg_ℤ (products n j c v)
products_neg zero j c v = refl
products_neg (suc n) j c v = neg_sum (c j *ℤ neg_ℤ (v j)) (c j *ℤ v j) (products n (j + 1) c (λ i. neg_ℤ (v i))) (products n (j + 1) c v) (times_neg (c j) (v j)) (products_neg n (j + 1) c v)

pub products_nought : (n j : ℕ) (c : ℕ → ℤ) → products n j c nothing ≡ pos 0
products_nought zero j c = refl
products_nought (suc n) j c = ap (λ y. c j *ℤ pos 0 +ℤ y) (products_nought n (j + 1) c) ∙ zeros (c j)
  where
    zeros : (z : ℤ) → z *ℤ pos 0 +ℤ pos 0 ≡ pos 0
    zeros z = omega (arith, ints)

-- a list of coefficients, by a list of values
pub listed : (m k : ℕ) (cs zs : List ℤ) (c x : ℕ → ℤ) → length cs ≤ m → ((i : ℕ) → c (k + i) ≡ get_or cs i (pos 0)) → ((i : ℕ) → x (k + i) ≡ get_or zs i (pos 0)) → products m k c x ≡ weighted cs zs
listed zero k [] zs c x l h g = refl
listed zero k (d ∷ cs) zs c x l h g = absurd (omega (arith, l))
listed (suc m) k [] zs c x l h g =
    ap₂ (λ p q. p *ℤ x k +ℤ q) (ap c (let e : k ≡ k + 0 = omega arith in e) ∙ h 0)
    (listed m (k + 1) [] (rest zs) c x (omega arith) (λ i. ap c (let e : (k + 1) + i ≡ k + suc i = omega arith in e) ∙ h (suc i)) (λ i. ap x (let e : (k + 1) + i ≡ k + suc i = omega arith in e) ∙ (g (suc i) ∙ later zs i)))
    ∙ zeros (x k)
  where
    rest : List ℤ → List ℤ
    rest [] = []
    rest (z ∷ zs) = zs

    later : (zs : List ℤ) (i : ℕ) → get_or zs (suc i) (pos 0) ≡ get_or (rest zs) i (pos 0)
    later [] i = refl
    later (z ∷ zs) i = refl

    zeros : (z : ℤ) → pos 0 *ℤ z +ℤ pos 0 ≡ pos 0
    zeros z = omega (arith, ints)
listed (suc m) k (d ∷ cs) [] c x l h g =
    ap₂ (λ p q. c k *ℤ p +ℤ q) (ap x (let e : k ≡ k + 0 = omega arith in e) ∙ g 0)
    (listed m (k + 1) cs [] c x (omega (arith, l)) (λ i. ap c (let e : (k + 1) + i ≡ k + suc i = omega arith in e) ∙ h (suc i)) (λ i. ap x (let e : (k + 1) + i ≡ k + suc i = omega arith in e) ∙ g (suc i)) ∙ none cs)
    ∙ zeros (c k)
  where
    none : (cs : List ℤ) → weighted cs [] ≡ pos 0
    none [] = refl
    none (d ∷ ds) = refl

    zeros : (z : ℤ) → z *ℤ pos 0 +ℤ pos 0 ≡ pos 0
    zeros z = omega (arith, ints)
listed (suc m) k (d ∷ cs) (z ∷ zs) c x l h g =
    ap₂ (λ p q. p +ℤ q) (ap₂ (λ p q. p *ℤ q) (ap c (let e : k ≡ k + 0 = omega arith in e) ∙ h 0) (ap x (let e : k ≡ k + 0 = omega arith in e) ∙ g 0))
    (listed m (k + 1) cs zs c x (omega (arith, l)) (λ i. ap c (let e : (k + 1) + i ≡ k + suc i = omega arith in e) ∙ h (suc i)) (λ i. ap x (let e : (k + 1) + i ≡ k + suc i = omega arith in e) ∙ g (suc i)))

-- ---- within sizes

abbrev pub AreWithin : List ℤ → List ℕ → Type 0
AreWithin [] ss = Unit {0}
AreWithin (w ∷ ws) [] = ⊥
AreWithin (w ∷ ws) (s ∷ ss) = (nat_abs w ≤ s) × AreWithin ws ss

pub within_front : (xs ys : List ℤ) (ss : List ℕ) → AreWithin (xs ++ ys) ss → AreWithin xs ss
within_front [] ys ss h = tt
within_front (x ∷ xs) ys [] h = h
within_front (x ∷ xs) ys (s ∷ ss) h = (h.0, within_front xs ys ss h.1)

pub within_neg : (ws : List ℤ) (ss : List ℕ) → AreWithin ws ss → AreWithin (map neg_ℤ ws) ss
within_neg [] ss h = tt
within_neg (w ∷ ws) [] h = h
within_neg (w ∷ ws) (s ∷ ss) h = (same w s h.0, within_neg ws ss h.1)
  where
    same : (w : ℤ) (s : ℕ) → nat_abs w ≤ s → nat_abs (neg_ℤ w) ≤ s
    same w s e = omega (arith, ints, e)

-- nothing but the last one
abbrev pub zeros_of : List ℤ → List ℤ
zeros_of [] = []
zeros_of (w ∷ ws) = pos 0 ∷ zeros_of ws

pub zeros_length : (ws : List ℤ) → length (zeros_of ws) ≡ length ws
zeros_length [] = refl
zeros_length (w ∷ ws) = ap suc (zeros_length ws)

pub within_last : (ws : List ℤ) (z : ℤ) (ss : List ℕ) → AreWithin (ws ++ z ∷ []) ss → AreWithin (zeros_of ws ++ z ∷ []) ss
within_last [] z ss h = h
within_last (w ∷ ws) z [] h = h
within_last (w ∷ ws) z (s ∷ ss) h = (omega arith, within_last ws z ss h.1)

pub weighted_zeros : (front ws : List ℤ) → weighted front (zeros_of ws) ≡ pos 0
weighted_zeros [] ws = refl
weighted_zeros (f ∷ front) [] = refl
weighted_zeros (f ∷ front) (w ∷ ws) = ap (λ x. f *ℤ pos 0 +ℤ x) (weighted_zeros front ws) ∙ zeros f
  where
    zeros : (z : ℤ) → z *ℤ pos 0 +ℤ pos 0 ≡ pos 0
    zeros z = omega (arith, ints)

pub within_more : (zs : List ℤ) (ss : List ℕ) (z : ℤ) (s : ℕ) → length zs ≡ length ss → AreWithin zs ss → nat_abs z ≤ s → AreWithin (zs ++ z ∷ []) (ss ++ s ∷ [])
within_more [] [] z s e h k = (k, tt)
within_more [] (t ∷ ss) z s e h k = absurd (omega (arith, e))
within_more (y ∷ zs) [] z s e h k = absurd (omega (arith, e))
within_more (y ∷ zs) (t ∷ ss) z s e h k = (h.0, within_more zs ss z s (omega (arith, e)) h.1 k)

-- what stands for loops
abbrev pub IsBound : (ℕ → ℤ) → ℕ → List ℕ → Type 0
IsBound F k [] = Unit {0}
IsBound F k (s ∷ ss) = (nat_abs (F k) ≤ s) × IsBound F (k + 1) ss

pub bound_listed : (F : ℕ → ℤ) (k : ℕ) (ws : List ℤ) (ss : List ℕ) → ((i : ℕ) → F (k + i) ≡ get_or ws i (pos 0)) → AreWithin ws ss → IsBound F k ss
bound_listed F k ws [] f h = tt
bound_listed F k [] (s ∷ ss) f h =
    (subst (λ z. nat_abs z ≤ s) (sym (ap F (let e : k ≡ k + 0 = omega arith in e) ∙ f 0)) (omega arith), bound_listed F (k + 1) [] ss (λ i. ap F (let e : (k + 1) + i ≡ k + suc i = omega arith in e) ∙ f (suc i)) tt)
bound_listed F k (w ∷ ws) (s ∷ ss) f h =
    (subst (λ z. nat_abs z ≤ s) (sym (ap F (let e : k ≡ k + 0 = omega arith in e) ∙ f 0)) h.0, bound_listed F (k + 1) ws ss (λ i. ap F (let e : (k + 1) + i ≡ k + suc i = omega arith in e) ∙ f (suc i)) h.1)

pub bound_none : (k : ℕ) (ss : List ℕ) → IsBound nothing k ss
bound_none k [] = tt
bound_none k (s ∷ ss) = (omega arith, bound_none (k + 1) ss)

pub bound_front : (F : ℕ → ℤ) (k : ℕ) (ss : List ℕ) (s : ℕ) → IsBound F k (ss ++ s ∷ []) → IsBound F k ss × (nat_abs (F (k + length ss)) ≤ s)
bound_front F k [] s h = (tt, subst (λ j. nat_abs (F j) ≤ s) (let e : k ≡ k + 0 = omega arith in e) h.0)
bound_front F k (t ∷ ss) s h = let r = bound_front F (k + 1) ss s h.1 in ((h.0, r.0), subst (λ j. nat_abs (F j) ≤ s) (let e : (k + 1) + length ss ≡ k + suc (length ss) = omega arith in e) r.1)

-- a list's values are those from its start on
pub zero_front : (F : ℕ → ℤ) (i : ℕ) → F (0 + i) ≡ F i
zero_front F i = ap F (let e : 0 + i ≡ i = omega arith in e)
