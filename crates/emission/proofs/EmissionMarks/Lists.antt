-- Elements of lists.
use Rattle.std.proofs.Common.{◌≡◌, ◌⊎◌, inl, inr, ℕ, zero, suc, ◌+◌, ◌<◌, ◌≤◌, refl, sym, ap, subst, arith, Some}
use Rattle.std.proofs.Common.{List, [], ◌∷◌, ◌++◌, length, get_or, take, flat_map, Contains, eq-or-lt_of_le}
use Rattle.std.specs.Prelude.{slice_get}
use Rattle.std.specs.List.{range_with_len}
use Rattle.components.specs.Lists as lists
use Rattle.nest_order.specs.orders.Lists.{In, Each, Distinct}
use Rattle.nest_order.proofs.orders.Lists.{Each-from, In-append, In-left, In-right}

-- ---- the words of other crates

pub element : {X : Type 0} (xs : List X) (k : ℕ) (d : X) → k < length xs → lists.IsMember (get_or xs k d) xs
element [] k d h = absurd (omega arith)
element (x ∷ xs) zero d h = inl refl
element (x ∷ xs) (suc k) d h = inr (element xs k d (omega arith))

pub contained : {X : Type 0} (xs : List X) (x : X) → In x xs → Contains xs x
contained [] x i = absurd i
contained (y ∷ xs) x (inl e) = (0, omega arith, sym e)
contained (y ∷ xs) x (inr i) =
    let c = contained xs x i in (suc c.0, (let h : c.0 < length xs = c.1 in omega arith), c.2)

pub among : {X : Type 0} (xs : List X) (x : X) → Contains xs x → In x xs
among [] x c = absurd (let h : c.0 < 0 = c.1 in omega arith)
among (y ∷ xs) x c = at c.0 c.1 c.2 (among xs x)
  where
    at : (k : ℕ) → k < suc (length xs) → get_or (y ∷ xs) k x ≡ x → (Contains xs x → In x xs) → In x (y ∷ xs)
    at zero h e more = inl (sym e)
    at (suc k) h e more = inr (more (k, omega arith, e))

pub to_distinct : {X : Type 0} (xs : List X) → lists.Distinct xs → Distinct xs
to_distinct {X} [] h = tt
to_distinct {X} (x ∷ xs) h = (each xs h.0, to_distinct xs h.1)
  where
    each : (ys : List X) → lists.Each (λ y. ¬ (x ≡ y)) ys → Each (λ y. ¬ (x ≡ y)) ys
    each [] h = tt
    each (y ∷ ys) h = (h.0, each ys h.1)

pub from_distinct : {X : Type 0} (xs : List X) → Distinct xs → lists.Distinct xs
from_distinct {X} [] h = tt
from_distinct {X} (x ∷ xs) h = (each xs h.0, from_distinct xs h.1)
  where
    each : (ys : List X) → Each (λ y. ¬ (x ≡ y)) ys → lists.Each (λ y. ¬ (x ≡ y)) ys
    each [] h = tt
    each (y ∷ ys) h = (h.0, each ys h.1)

-- ---- lists of lists

pub in_flat : {X Y : Type 0} (f : X → List Y) (xs : List X) (y : Y) → In y (flat_map f xs)
    → (x : X) × In x xs × In y (f x)
in_flat f [] y i = absurd i
in_flat {X} {Y} f (x ∷ xs) y i = by (In-append y (f x) (flat_map f xs) i) (in_flat f xs y)
  where
    by : In y (f x) ⊎ In y (flat_map f xs) → (In y (flat_map f xs) → (z : X) × In z xs × In y (f z))
        → (z : X) × In z (x ∷ xs) × In y (f z)
    by (inl j) more = (x, inl refl, j)
    by (inr j) more = let r = more j in (r.0, inr r.1, r.2)

pub flat_in : {X Y : Type 0} (f : X → List Y) (xs : List X) (y : Y) (x : X) → In x xs → In y (f x)
    → In y (flat_map f xs)
flat_in f [] y x i j = absurd i
flat_in f (z ∷ xs) y x (inl e) j = In-left y (f z) (flat_map f xs) (subst (λ w. In y (f w)) e j)
flat_in f (z ∷ xs) y x (inr i) j = In-right y (f z) (flat_map f xs) (flat_in f xs y x i j)

-- ---- places

pub take_next : {X : Type 0} (xs : List X) (k : ℕ) (x : X) → slice_get xs k ≡ Some x
    → take (suc k) xs ≡ take k xs ++ x ∷ []
take_next [] k x e = absurd cc
take_next (y ∷ xs) zero x e = let f : y ≡ x = cc in ap (λ z. z ∷ []) f
take_next (y ∷ xs) (suc k) x e = ap (λ ys. y ∷ ys) (take_next xs k x e)

pub in_range : (a m k : ℕ) → a ≤ k → k < a + m → In k (range_with_len a m)
in_range a zero k low high = absurd (omega arith)
in_range a (suc m) k low high = by (eq-or-lt_of_le low) (λ h. in_range (a + 1) m k (omega arith) (omega arith))
  where
    by : (a ≡ k) ⊎ (suc a ≤ k) → (suc a ≤ k → In k (range_with_len (a + 1) m)) → In k (range_with_len a (suc m))
    by (inl e) more = inl (sym e)
    by (inr h) more = inr (more h)

pub range_within : (a m k : ℕ) → In k (range_with_len a m) → (a ≤ k) × (k < a + m)
range_within a zero k i = absurd i
range_within a (suc m) k (inl e) = (omega arith, omega arith)
range_within a (suc m) k (inr i) = by (range_within (a + 1) m k i)
  where
    by : (a + 1 ≤ k) × (k < (a + 1) + m) → (a ≤ k) × (k < a + suc m)
    by h = (let low = h.0 in omega arith, let high = h.1 in omega arith)

pub range_once : (a m : ℕ) → Distinct (range_with_len a m)
range_once a zero = tt
range_once a (suc m) = (Each-from (λ k. ¬ (a ≡ k)) (range_with_len (a + 1) m) above, range_once (a + 1) m)
  where
    above : (k : ℕ) → In k (range_with_len (a + 1) m) → ¬ (a ≡ k)
    above k i e = let h : a + 1 ≤ k = (range_within (a + 1) m k i).0 in absurd (omega arith)
