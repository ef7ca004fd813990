-- All elements of an array, in order.
use Rattle.std.proofs.Common.{◌≡◌, refl, sym, ap, ◌∙◌, zero, suc, ℕ, ℤ, pos, negsuc, ◌+◌, ◌*◌, ◌<◌, ◌≤◌, ◌+ℤ◌, ◌-ℤ◌, ◌≤ℤ◌, true, List, [], ◌∷◌, ◌++◌, map, length, arith}
use Rattle.std.specs.Prelude.{◌&&◌, nat_abs, All}
use Rattle.std.specs.List.{flat_map}
use mathlib.Core.Path.{ap₂}
use Rattle.std.proofs.lemmas.Int.{ints}
use Rattle.meaning.specs.Store.{size_of, numbers_from, column_major}
use Rattle.meaning.specs.ArrayValues.{counted}
use Rattle.meaning.specs.Sections.{numbers_of, is_within_bounds, all_stand_in, whole_axes, extents_of}
use Rattle.meaning.specs.Extents.{elements_of}
use Rattle.machine.specs.Storage.{offset}
use Rattle.array_values.specs.storage.array_places.Places.{row, somes}
use Rattle.array_values.proofs.storage.ArrayPlaces.Rows.{all_rows}
use Rattle.array_values.proofs.Positions.{counted_append}

-- ---- the numbers of a dimension stand within it

inside : (b : ℤ × ℤ) (z : ℤ) → b.0 ≤ℤ z → z ≤ℤ b.1 → is_within_bounds b z ≡ true
inside b z l m = grind (arith, ints)

from_stand : (b : ℤ × ℤ) (z : ℤ) (n : ℕ) → b.0 ≤ℤ z → (z +ℤ pos n) ≤ℤ (b.1 +ℤ pos 1) → all_stand_in b (numbers_from z n) ≡ true
from_stand b z zero l m = refl
from_stand b z (suc n) l m =
    ap₂ (λ s t. s && t) (inside b z l (omega (arith, ints))) (from_stand b (z +ℤ pos 1) n (omega (arith, ints)) (omega (arith, ints)))

whole_stand : (b : ℤ × ℤ) → all_stand_in b (numbers_from b.0 (size_of b)) ≡ true
whole_stand b = by (b.1 -ℤ b.0) refl
  where
    by : (d : ℤ) → b.1 -ℤ b.0 ≡ d → all_stand_in b (numbers_from b.0 (elim d as (λ _. ℕ) [ pos n ↦ n + 1 | negsuc n ↦ 0 ])) ≡ true
    by (pos n) e = from_stand b b.0 (n + 1) (omega (arith, ints)) (omega (arith, ints))
    by (negsuc n) e = refl

-- ---- their places

one_by_one : (b : ℤ × ℤ) (k i m : ℕ) (z : ℤ) → z ≡ b.0 +ℤ pos i → row b (numbers_from z m) k ≡ counted (size_of b * k + i) m
one_by_one b k i zero z e = refl
one_by_one b k i (suc m) z e =
    ap₂ (λ j js. j ∷ js)
    (let at : nat_abs (z -ℤ b.0) ≡ i = omega (arith, ints) in let s : nat_abs (z -ℤ b.0) + size_of b * k ≡ size_of b * k + i = omega arith in s)
    (one_by_one b k (i + 1) m (z +ℤ pos 1) (omega (arith, ints))
    ∙ ap (λ a. counted a m) (let s : size_of b * k + (i + 1) ≡ size_of b * k + i + 1 = omega arith in s))

rows_counted : (b : ℤ × ℤ) (j m : ℕ) → flat_map (row b (numbers_from b.0 (size_of b))) (counted j m) ≡ counted (size_of b * j) (size_of b * m)
rows_counted b j zero = ap (counted (size_of b * j)) (let e : 0 ≡ size_of b * 0 = grind arith in e)
rows_counted b j (suc m) =
    ap₂ (λ xs ys. xs ++ ys) (one_by_one b j 0 (size_of b) b.0 (omega (arith, ints))) (rows_counted b (j + 1) m)
    ∙ ap₂ (λ a c. counted a (size_of b) ++ counted c (size_of b * m)) (let e : size_of b * j + 0 ≡ size_of b * j = omega arith in e) (let e : size_of b * (j + 1) ≡ size_of b * j + size_of b = grind arith in e)
    ∙ counted_append (size_of b * j) (size_of b) (size_of b * m)
    ∙ ap (counted (size_of b * j)) (let e : size_of b + size_of b * m ≡ size_of b * suc m = grind arith in e)

pub whole_places : (bs : List (ℤ × ℤ)) → map (offset bs) (column_major (map numbers_of (whole_axes bs))) ≡ somes (counted 0 (elements_of bs))
whole_places [] = refl
whole_places (b ∷ bs) =
    all_rows b bs (numbers_from b.0 (size_of b)) (column_major (map numbers_of (whole_axes bs))) (counted 0 (elements_of bs)) (whole_stand b) (whole_places bs)
    ∙ ap somes (rows_counted b 0 (elements_of bs))
    ∙ ap (λ a. somes (counted a (size_of b * elements_of bs))) (let e : size_of b * 0 ≡ 0 = grind arith in e)

numbers_length : (z : ℤ) (n : ℕ) → length (numbers_from z n) ≡ n
numbers_length z zero = refl
numbers_length z (suc n) = ap suc (numbers_length (z +ℤ pos 1) n)

pub whole_extents : (bs : List (ℤ × ℤ)) → map size_of bs ≡ extents_of (whole_axes bs)
whole_extents [] = refl
whole_extents (b ∷ bs) = ap₂ (λ n ns. n ∷ ns) (sym (numbers_length b.0 (size_of b))) (whole_extents bs)

pub counted_below : (n a m : ℕ) → a + m ≤ n → All (λ k. k < n) (counted a m)
counted_below n a zero h k d l = absurd (omega arith)
counted_below n a (suc m) h zero d l = (let e : a < n = omega arith in e)
counted_below n a (suc m) h (suc k) d l = counted_below n (a + 1) m (omega arith) k d (omega arith)

pub counted_next : (k : ℕ) → counted 0 (k + 1) ≡ counted 0 k ++ k ∷ []
counted_next k = sym (counted_append 0 k 1 ∙ refl) ∙ ap (λ j. counted 0 k ++ j ∷ []) (let e : 0 + k ≡ k = omega arith in e)
