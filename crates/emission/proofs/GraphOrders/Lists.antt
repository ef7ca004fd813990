-- Elements of lists by their places.
use Rattle.std.proofs.Common.{◌≡◌, ◌⊎◌, ℕ, zero, suc, ◌+◌, ◌<◌, ◌≤◌, List, [], ◌∷◌, length, Some, refl, sym, subst}
use Rattle.std.proofs.Common.{inl, inr, arith, eq-or-lt_of_le}
use Rattle.std.specs.Prelude.{All, slice_get}
use Rattle.std.specs.List.{range_with_len}
use Rattle.std.proofs.lemmas.Option.{get_or_from_slice_get, slice_get_within}
use Rattle.nest_order.specs.orders.Lists.{In}
use Rattle.nest_order.specs.runs.Touched.{nth_of}

pub all_there : {X : Type 0} (P : X → Type 0) (xs : List X) (k : ℕ) (x : X) → All P xs → slice_get xs k ≡ Some x → P x
all_there P xs k x h e = subst P (get_or_from_slice_get xs k x x e) (h k x (slice_get_within xs k x e))

pub in_there : {X : Type 0} (xs : List X) (k : ℕ) (x : X) → slice_get xs k ≡ Some x → In x xs
in_there [] k x e = cc
in_there (y ∷ xs) zero x e = let f : y ≡ x = cc in inl (sym f)
in_there (y ∷ xs) (suc k) x e = inr (in_there xs k x e)

pub one_there : {X : Type 0} (xs : List X) (k : ℕ) → k < length xs → (x : X) × (slice_get xs k ≡ Some x)
one_there [] k h = absurd (omega arith)
one_there (x ∷ xs) zero h = (x, refl)
one_there (x ∷ xs) (suc k) h = one_there xs k (omega arith)

pub nth_same : {X : Type 0} (xs : List X) (k : ℕ) → nth_of xs k ≡ slice_get xs k
nth_same [] k = refl
nth_same (x ∷ xs) zero = refl
nth_same (x ∷ xs) (suc k) = nth_same xs k

pub in_range : (a m k : ℕ) → a ≤ k → k < a + m → In k (range_with_len a m)
in_range a zero k low high = absurd (omega arith)
in_range a (suc m) k low high = by (eq-or-lt_of_le low) (λ h. in_range (a + 1) m k (omega arith) (omega arith))
  where
    by : (a ≡ k) ⊎ (suc a ≤ k) → (suc a ≤ k → In k (range_with_len (a + 1) m)) → In k (range_with_len a (suc m))
    by (inl e) more = inl (sym e)
    by (inr h) more = inr (more h)

pub range_below : (a m k : ℕ) → In k (range_with_len a m) → k < a + m
range_below a zero k i = absurd i
range_below a (suc m) k (inl e) = omega arith
range_below a (suc m) k (inr i) = let h = range_below (a + 1) m k i in omega arith
