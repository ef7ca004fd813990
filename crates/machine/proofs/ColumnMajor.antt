-- The elements of an array in column-major order, and their values one after the other.
use Rattle.std.proofs.Common.{◌≡◌, refl, sym, ap, ◌∙◌, subst, zero, suc, ℕ, ℤ, pos, negsuc, ◌+◌, ◌*◌, ◌<◌, ◌≤◌, ◌+ℤ◌, ◌-ℤ◌, ◌≤ℤ◌, Bool, true, false, cond, List, [], ◌∷◌, ◌++◌, length, map, take, drop, get_or, Option, Some, None, arith}
use Rattle.std.specs.Prelude.{int_le, ◌&&◌, nat_abs}
use Rattle.std.specs.Option.{option_map}
use Rattle.std.specs.List.{flat_map, range_with_len}
use mathlib.Core.Path.{ap₂}
use Rattle.std.proofs.lemmas.Int.{ints}
use Rattle.std.proofs.Math.Dec.{T}
use Rattle.std.proofs.lemmas.List.{map-append, drop_more}
use Rattle.tree.specs.Plain.{Declaration}
use Rattle.tree.specs.declared.ops.Value.{Value}
use Rattle.meaning.specs.Store.{Cell, numbers_from, size_of, column_major, cells_of, opening_value}
use Rattle.meaning.specs.Extents.{elements_of}
use Rattle.machine.specs.declared.variables.Variable.{Variable}
use Rattle.machine.specs.Storage.{store_of, place, offset, joined, value_at}
use Rattle.machine.specs.Stored.{IsOf, bounds_here}
use Rattle.machine.proofs.StoreLaws.{store-held, size_is}

abbrev somes : List ℕ → List (Option ℕ)
somes ks = map (λ k. let o : Option ℕ = Some k in o) ks

range_append : (a m n : ℕ) → range_with_len a m ++ range_with_len (a + m) n ≡ range_with_len a (m + n)
range_append a zero n = ap₂ range_with_len (let e : a + 0 ≡ a = omega arith in e) (let e : n ≡ 0 + n = omega arith in e)
range_append a (suc m) n =
    ap (λ k. a ∷ (range_with_len (a + 1) m ++ range_with_len k n)) (let e : a + suc m ≡ a + 1 + m = omega arith in e)
    ∙ ap (λ ks. a ∷ ks) (range_append (a + 1) m n)
    ∙ ap (range_with_len a) (let e : suc (m + n) ≡ suc m + n = omega arith in e)

inside_true : (a b : Bool) → a ≡ true → b ≡ true → (a && b) ≡ true
inside_true true b e h = h
inside_true false b e h = cc

le_true : (a b : ℤ) → a ≤ℤ b → int_le a b ≡ true
le_true a b h = by (int_le a b) refl
  where
    by : (t : Bool) → int_le a b ≡ t → int_le a b ≡ true
    by true e = e
    by false e = absurd (subst T e h.le)

ordered : (b : ℤ × ℤ) → 0 < size_of b → b.0 ≤ℤ b.1
ordered b l = by (b.1 -ℤ b.0) refl l
  where
    by : (d : ℤ) → b.1 -ℤ b.0 ≡ d → 0 < elim d as (λ _. ℕ) [ pos n ↦ n + 1 | negsuc n ↦ 0 ] → b.0 ≤ℤ b.1
    by (pos n) e l = omega (arith, ints)
    by (negsuc n) e l = absurd (omega (arith, l))

joined_inside : (b : ℤ × ℤ) (z : ℤ) (i k : ℕ) → z ≡ b.0 +ℤ pos i → i < size_of b → joined b z (Some k) ≡ Some (size_of b * k + i)
joined_inside b z i k e l =
    let h : b.0 ≤ℤ b.1 = ordered b (omega (arith, l)) in
    let size = size_is b h in
    let low : b.0 ≤ℤ z = omega (arith, ints) in
    let high : z ≤ℤ b.1 = omega (arith, ints) in
    let at : nat_abs (z -ℤ b.0) ≡ i = omega (arith, ints) in
    ap (λ t. cond t (Some (nat_abs (z -ℤ b.0) + size_of b * k)) None) (inside_true (int_le b.0 z) (int_le z b.1) (le_true b.0 z low) (le_true z b.1 high))
    ∙ ap (λ n. let o : Option ℕ = Some n in o) (let s : nat_abs (z -ℤ b.0) + size_of b * k ≡ size_of b * k + i = omega arith in s)

-- the places of a row
row : (b : ℤ × ℤ) (z : ℤ) (i n k : ℕ) → z ≡ b.0 +ℤ pos i → i + n ≡ size_of b → map (λ x. joined b x (Some k)) (numbers_from z n) ≡ somes (range_with_len (size_of b * k + i) n)
row b z i zero k e l = refl
row b z i (suc n) k e l = ap₂ (λ o os. o ∷ os) (joined_inside b z i k e (omega arith))
    (row b (z +ℤ pos 1) (i + 1) n k (omega (arith, ints)) (omega arith)
    ∙ ap (λ a. somes (range_with_len a n)) (let s : size_of b * k + (i + 1) ≡ size_of b * k + i + 1 = omega arith in s))

-- all rows
rows_of : (b : ℤ × ℤ) (j n : ℕ)
    → flat_map (λ o. map (λ x. joined b x o) (numbers_from b.0 (size_of b))) (somes (range_with_len j n)) ≡ somes (range_with_len (size_of b * j) (size_of b * n))
rows_of b j zero = ap (λ n. somes (range_with_len (size_of b * j) n)) (let e : 0 ≡ size_of b * 0 = grind arith in e)
rows_of b j (suc n) =
    ap₂ (λ xs ys. xs ++ ys) (row b b.0 0 (size_of b) j (omega (arith, ints)) (omega arith)) (rows_of b (j + 1) n)
    ∙ ap₂ (λ a c. somes (range_with_len a (size_of b)) ++ somes (range_with_len c (size_of b * n))) (let e : size_of b * j + 0 ≡ size_of b * j = omega arith in e) (let e : size_of b * (j + 1) ≡ size_of b * j + size_of b = grind arith in e)
    ∙ sym (map-append (λ k. let o : Option ℕ = Some k in o) (range_with_len (size_of b * j) (size_of b)) (range_with_len (size_of b * j + size_of b) (size_of b * n)))
    ∙ ap somes (range_append (size_of b * j) (size_of b) (size_of b * n))
    ∙ ap (λ m. somes (range_with_len (size_of b * j) m)) (let e : size_of b + size_of b * n ≡ size_of b * suc n = grind arith in e)

-- the places of a row's elements
one_row : (b : ℤ × ℤ) (bs : List (ℤ × ℤ)) (xs : List ℤ) (r : List ℤ) → map (offset (b ∷ bs)) (map (λ x. x ∷ r) xs) ≡ map (λ x. joined b x (offset bs r)) xs
one_row b bs [] r = refl
one_row b bs (x ∷ xs) r = ap (λ os. joined b x (offset bs r) ∷ os) (one_row b bs xs r)

spread : (b : ℤ × ℤ) (bs : List (ℤ × ℤ)) (xs : List ℤ) (rs : List (List ℤ))
    → map (offset (b ∷ bs)) (flat_map (λ rest. map (λ x. x ∷ rest) xs) rs) ≡ flat_map (λ o. map (λ x. joined b x o) xs) (map (offset bs) rs)
spread b bs xs [] = refl
spread b bs xs (r ∷ rs) =
    map-append (offset (b ∷ bs)) (map (λ x. x ∷ r) xs) (flat_map (λ rest. map (λ x. x ∷ rest) xs) rs)
    ∙ ap₂ (λ os ps. os ++ ps) (one_row b bs xs r) (spread b bs xs rs)

pub elements_in_order : (bs : List (ℤ × ℤ))
    → map (offset bs) (column_major (map (λ (b : ℤ × ℤ). numbers_from b.0 (size_of b)) bs)) ≡ somes (range_with_len 0 (elements_of bs))
elements_in_order [] = refl
elements_in_order (b ∷ bs) =
    spread b bs (numbers_from b.0 (size_of b)) (column_major (map (λ (b : ℤ × ℤ). numbers_from b.0 (size_of b)) bs))
    ∙ ap (flat_map (λ o. map (λ x. joined b x o) (numbers_from b.0 (size_of b)))) (elements_in_order bs)
    ∙ rows_of b 0 (elements_of bs)
    ∙ ap (λ a. somes (range_with_len a (size_of b * elements_of bs))) (let e : size_of b * 0 ≡ 0 = grind arith in e)

-- ---- their values

values_from : (vs : List Value) (a j n : ℕ) (d : Value) → a + j + n ≤ length vs → map (λ k. get_or vs (a + k) d) (range_with_len j n) ≡ take n (drop (a + j) vs)
values_from vs a j zero d h = refl
values_from vs a j (suc n) d h =
    ap (λ ws. get_or vs (a + j) d ∷ ws) (values_from vs a (j + 1) n d (omega arith) ∙ ap (λ k. take n (drop k vs)) (let e : a + (j + 1) ≡ a + j + 1 = omega arith in e))
    ∙ sym (ap (take (suc n)) (drop_more vs (a + j) d (omega arith)))

held_each : (ds : List Declaration) (vs : List Value) (x : List ℕ) (a : ℕ) (bs : List (ℤ × ℤ)) → ((is : List ℤ) → place ds x is ≡ option_map (λ k. a + k) (offset bs is))
    → (rs : List (List ℤ)) → map (store_of ds vs).held (map (λ is. let c : Cell = record { name = x; subscripts = is } in c) rs)
    ≡ map (λ o. value_at vs (opening_value ds x) (option_map (λ k. a + k) o)) (map (offset bs) rs)
held_each ds vs x a bs h [] = refl
held_each ds vs x a bs h (r ∷ rs) = ap₂ (λ v ws. v ∷ ws)
    (store-held ds vs (record { name = x; subscripts = r }) ∙ ap (value_at vs (opening_value ds x)) (h r)) (held_each ds vs x a bs h rs)

some_each : (vs : List Value) (d : Value) (a : ℕ) (ks : List ℕ) → map (λ o. value_at vs d (option_map (λ k. a + k) o)) (somes ks) ≡ map (λ k. get_or vs (a + k) d) ks
some_each vs d a [] = refl
some_each vs d a (k ∷ ks) = ap (λ ws. get_or vs (a + k) d ∷ ws) (some_each vs d a ks)

-- the values of all elements stand one after the other
pub all_held : (ds : List Declaration) (vs : List Value) (x : List ℕ) (v : Variable) → IsOf ds x v → v.start + elements_of (bounds_here v) ≤ length vs
    → map (store_of ds vs).held (cells_of x (bounds_here v)) ≡ take (elements_of (bounds_here v)) (drop v.start vs)
all_held ds vs x v h l =
    held_each ds vs x v.start (bounds_here v) h.place (column_major (map (λ (b : ℤ × ℤ). numbers_from b.0 (size_of b)) (bounds_here v)))
    ∙ ap (map (λ o. value_at vs (opening_value ds x) (option_map (λ k. v.start + k) o))) (elements_in_order (bounds_here v))
    ∙ some_each vs (opening_value ds x) v.start (range_with_len 0 (elements_of (bounds_here v)))
    ∙ values_from vs v.start 0 (elements_of (bounds_here v)) (opening_value ds x) (omega arith)
    ∙ ap (λ k. take (elements_of (bounds_here v)) (drop k vs)) (let e : v.start + 0 ≡ v.start = omega arith in e)
