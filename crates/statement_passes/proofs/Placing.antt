-- Lists with one more item at a place, and what was found at a place before.
use Rattle.std.proofs.Common.{◌≡◌, ℕ, zero, suc, ◌+◌, ◌≤◌, ◌<◌, ℤ, pos, ◌+ℤ◌, ◌*ℤ◌, List, [], ◌∷◌, ◌++◌, map, take, drop, insert, set, length, get_or, refl, ap, ◌∙◌, arith}
use Rattle.std.specs.Prelude.{slice_get}
use Rattle.std.proofs.lemmas.Int.{ints}
use Rattle.std.proofs.lemmas.Bool.Decides.{nat_tests}
use Rattle.linear_forms.specs.Linear.{weighted}
use Rattle.statement_passes.specs.Laws.{with_zero}
use Rattle.statement_passes.specs.Symbols.{shifted_place}

-- ---- places

shifted-suc : (at j : ℕ) → shifted_place (suc at) (suc j) ≡ suc (shifted_place at j)
shifted-suc at j = grind (arith, nat_tests)

shifted-first : (j : ℕ) → shifted_place 0 j ≡ suc j
shifted-first j = grind (arith, nat_tests)

shifted-none : (at : ℕ) → shifted_place (suc at) 0 ≡ 0
shifted-none at = grind (arith, nat_tests)

-- what stood at a place stands at the shifted one
pub found-inserted : {A : Type 0} (xs : List A) (at : ℕ) (x : A) (j : ℕ) → at ≤ length xs → slice_get (insert xs at x) (shifted_place at j) ≡ slice_get xs j
found-inserted xs zero x j h = ap (slice_get (insert xs zero x)) (shifted-first j)
found-inserted [] (suc at) x j h = absurd (omega (arith, h))
found-inserted (y ∷ ys) (suc at) x zero h = ap (slice_get (insert (y ∷ ys) (suc at) x)) (shifted-none at)
found-inserted (y ∷ ys) (suc at) x (suc j) h =
    ap (slice_get (insert (y ∷ ys) (suc at) x)) (shifted-suc at j) ∙ found-inserted ys at x j (omega (arith, h))

-- ---- arrays, place by place

-- what was done to the first places, done to one more
pub one_more_done : {A : Type 0} (f : A → A) (xs : List A) (i : ℕ) (d : A) → i < length xs
    → set (map f (take i xs) ++ drop i xs) i (f (get_or (map f (take i xs) ++ drop i xs) i d)) ≡ map f (take (i + 1) xs) ++ drop (i + 1) xs
one_more_done f [] i d h = absurd (omega (arith, h))
one_more_done f (x ∷ xs) zero d h = refl
one_more_done f (x ∷ xs) (suc i) d h =
    ap (λ ys. f x ∷ ys) (one_more_done f xs i d (omega (arith, h)))
    ∙ ap (λ n. map f (take n (x ∷ xs)) ++ drop n (x ∷ xs)) (more i)
  where
    more : (i : ℕ) → suc (i + 1) ≡ suc i + 1
    more i = omega arith

-- ---- sums

zero-times : (v s : ℤ) → (pos 0 *ℤ v) +ℤ s ≡ s
zero-times v s = omega (arith, ints)

pub weighted-inserted : (k : ℕ) (cs xs : List ℤ) (v : ℤ) → k ≤ length xs → weighted (with_zero k cs) (insert xs k v) ≡ weighted cs xs
weighted-inserted k [] xs v h = refl
weighted-inserted zero (c ∷ cs) xs v h = zero-times v (weighted (c ∷ cs) xs)
weighted-inserted (suc k) (c ∷ cs) [] v h = absurd (omega (arith, h))
weighted-inserted (suc k) (c ∷ cs) (x ∷ xs) v h = ap (λ s. c *ℤ x +ℤ s) (weighted-inserted k cs xs v (omega (arith, h)))
