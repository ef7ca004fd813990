-- Products place by place, and the lists of their factors.
use mathlib.Core.Path.{ap₂}
use Rattle.std.proofs.Common.{◌≡◌, refl, sym, ap, ◌∙◌, ℕ, zero, suc, ◌+◌, ◌≤◌, ◌<◌, ℤ, pos, ◌+ℤ◌, ◌*ℤ◌, List, [], ◌∷◌}
use Rattle.std.proofs.Common.{◌++◌, take, drop, length, get_or, arith}
use Rattle.std.proofs.lemmas.Int.{ints}
use Rattle.std.proofs.Math.IntN.{zero-*ℤ}
use Rattle.linear_forms.specs.Linear.{weighted}
use Rattle.last_values.specs.normal_forms.Numbers.{products, values_from}

pub count_of : (n j : ℕ) (c : ℕ → ℤ) → length (values_from n j c) ≡ n
count_of zero j c = refl
count_of (suc n) j c = ap suc (count_of n (j + 1) c)

pub values_same : (n j : ℕ) (x y : ℕ → ℤ) → ((i : ℕ) → i < j + n → x i ≡ y i) → values_from n j x ≡ values_from n j y
values_same zero j x y h = refl
values_same (suc n) j x y h = ap₂ (λ z zs. z ∷ zs) (h j (omega arith)) (values_same n (j + 1) x y (λ i k. h i (omega (arith, k))))

pub products_same : (n j : ℕ) (c x y : ℕ → ℤ) → ((i : ℕ) → i < j + n → x i ≡ y i) → products n j c x ≡ products n j c y
products_same zero j c x y h = refl
products_same (suc n) j c x y h =
    ap₂ (λ p q. c j *ℤ p +ℤ q) (h j (omega arith)) (products_same n (j + 1) c x y (λ i k. h i (omega (arith, k))))

-- factors 0 behind the place d
pub products_front : (d q j : ℕ) (c x : ℕ → ℤ) → d ≤ q → ((i : ℕ) → d ≤ i → c (j + i) ≡ pos 0) → products q j c x ≡ products d j c x
products_front zero q j c x m h = nothing q j (λ i. h i (omega arith))
  where
    nothing : (q j : ℕ) → ((i : ℕ) → c (j + i) ≡ pos 0) → products q j c x ≡ pos 0
    nothing zero j h = refl
    nothing (suc q) j h =
        ap₂ (λ p r. p *ℤ x j +ℤ r) (ap c (omega arith) ∙ h 0) (nothing q (j + 1) (λ i. ap c (omega arith) ∙ h (suc i)))
        ∙ ap (λ p. p +ℤ pos 0) (zero-*ℤ (x j))
products_front (suc d) zero j c x m h = absurd (omega (arith, m))
products_front (suc d) (suc q) j c x m h =
    ap (λ r. c j *ℤ x j +ℤ r) (products_front d q (j + 1) c x (omega (arith, m)) (λ i k. ap c (omega arith) ∙ h (suc i) (omega (arith, k))))

-- one more place
pub products_more : (n j : ℕ) (c x : ℕ → ℤ) → products (suc n) j c x ≡ products n j c x +ℤ c (j + n) *ℤ x (j + n)
products_more zero j c x = let same : j ≡ j + 0 = omega arith in swapped (c j *ℤ x j) ∙ ap (λ i. pos 0 +ℤ c i *ℤ x i) same
  where
    swapped : (p : ℤ) → p +ℤ pos 0 ≡ pos 0 +ℤ p
    swapped p = omega (arith, ints)
products_more (suc n) j c x =
    let same : (j + 1) + n ≡ j + suc n = omega arith in
    ap (λ r. c j *ℤ x j +ℤ r) (products_more n (j + 1) c x ∙ ap (λ i. products n (j + 1) c x +ℤ c i *ℤ x i) same)
    ∙ grouped (c j *ℤ x j) (products n (j + 1) c x) (c (j + suc n) *ℤ x (j + suc n))
  where
    grouped : (p q r : ℤ) → p +ℤ (q +ℤ r) ≡ (p +ℤ q) +ℤ r
    grouped p q r = omega (arith, ints)

pub values_more : (n j : ℕ) (x : ℕ → ℤ) → values_from (suc n) j x ≡ values_from n j x ++ x (j + n) ∷ []
values_more zero j x = ap (λ i. x i ∷ []) (omega arith)
values_more (suc n) j x =
    let same : (j + 1) + n ≡ j + suc n = omega arith in
    ap (λ l. x j ∷ l) (values_more n (j + 1) x ∙ ap (λ i. values_from n (j + 1) x ++ x i ∷ []) same)

-- ---- lists of factors

pub weighted_products : (n j : ℕ) (es : List ℤ) (c v : ℕ → ℤ) → ((i : ℕ) → i < n → c (j + i) ≡ get_or es i (pos 0)) → products n j c v ≡ weighted es (values_from n j v)
weighted_products zero j [] c v h = refl
weighted_products zero j (e ∷ es) c v h = refl
weighted_products (suc n) j [] c v h =
    ap₂ (λ x y. x *ℤ v j +ℤ y) (ap c (omega arith) ∙ h 0 (omega arith)) (weighted_products n (j + 1) [] c v (λ i k. ap c (omega arith) ∙ h (suc i) (omega (arith, k))))
    ∙ ap (λ z. z +ℤ pos 0) (zero-*ℤ (v j))
weighted_products (suc n) j (e ∷ es) c v h =
    ap₂ (λ x y. x *ℤ v j +ℤ y) (ap c (omega arith) ∙ h 0 (omega arith)) (weighted_products n (j + 1) es c v (λ i k. ap c (omega arith) ∙ h (suc i) (omega (arith, k))))

-- first the factors of d places, and then others
pub weighted_front : (d j : ℕ) (c x : ℕ → ℤ) (es ys : List ℤ) → weighted (values_from d j c ++ es) (values_from d j x ++ ys) ≡ products d j c x +ℤ weighted es ys
weighted_front zero j c x es ys = zero_left (weighted es ys)
  where
    zero_left : (z : ℤ) → z ≡ pos 0 +ℤ z
    zero_left z = omega (arith, ints)
weighted_front (suc d) j c x es ys = ap (λ z. c j *ℤ x j +ℤ z) (weighted_front d (j + 1) c x es ys) ∙ grouped (c j *ℤ x j) (products d (j + 1) c x) (weighted es ys)
  where
    grouped : (p q r : ℤ) → p +ℤ (q +ℤ r) ≡ (p +ℤ q) +ℤ r
    grouped p q r = omega (arith, ints)

pub front_taken : (d j k : ℕ) (c : ℕ → ℤ) (es : List ℤ) → ((i : ℕ) → d ≤ i → c (j + i) ≡ pos 0) → c (j + k) ≡ get_or (take d (values_from d j c ++ es)) k (pos 0)
front_taken zero j k c es h = h k (omega arith) ∙ none es
  where
    none : (es : List ℤ) → pos 0 ≡ get_or (take 0 es) k (pos 0)
    none [] = refl
    none (e ∷ es) = refl
front_taken (suc d) j zero c es h = ap c (omega arith)
front_taken (suc d) j (suc k) c es h = ap c (omega arith) ∙ front_taken d (j + 1) k c es (λ i m. ap c (omega arith) ∙ h (suc i) (omega (arith, m)))

pub front_dropped : (d j : ℕ) (c : ℕ → ℤ) (es : List ℤ) → drop d (values_from d j c ++ es) ≡ es
front_dropped zero j c [] = refl
front_dropped zero j c (e ∷ es) = refl
front_dropped (suc d) j c es = front_dropped d (j + 1) c es

pub past_end : (es : List ℤ) (k : ℕ) → length es ≤ k → get_or es k (pos 0) ≡ pos 0
past_end [] k h = refl
past_end (e ∷ es) zero h = absurd (omega (arith, h))
past_end (e ∷ es) (suc k) h = past_end es k (omega (arith, h))

-- ---- lists place by place

pub values_next : (n j : ℕ) (f g : ℕ → ℤ) → ((i : ℕ) → f (suc i) ≡ g i) → values_from n (suc j) f ≡ values_from n j g
values_next zero j f g h = refl
values_next (suc n) j f g h =
    ap₂ (λ z zs. z ∷ zs) (h j) (ap (λ i. values_from n i f) (omega arith) ∙ values_next n (j + 1) f g h)

pub list_points : (zs : List ℤ) → zs ≡ values_from (length zs) 0 (λ k. get_or zs k (pos 0))
list_points [] = refl
list_points (z ∷ zs) =
    ap (λ l. z ∷ l) (list_points zs ∙ sym (values_next (length zs) 0 (λ k. get_or (z ∷ zs) k (pos 0)) (λ k. get_or zs k (pos 0)) (λ i. refl)))
