-- All cells of a name are within its bounds.
use Rattle.std.proofs.Common.{◌≡◌, ◌↔◌, refl, sym, subst, Contains, ℕ, zero, suc, ◌+◌, ℤ, pos, negsuc, ◌+ℤ◌, ◌-ℤ◌, Bool, true, false, ◌&&◌, List, [], ◌∷◌, ◌++◌, map, arith}
use Rattle.std.specs.Prelude.{int_le, ◌≤ℤ◌}
use Rattle.std.specs.List.{AllByRecursion, flat_map}
use Rattle.std.proofs.lemmas.Int.{ints}
use Rattle.std.proofs.lemmas.List.Elements.{recursion_from_All, All-from_recursion, All-contains, All-contains_itself, Contains-append_left, Contains-append_right, Contains-push}
use Rattle.meaning.specs.Store.{Cell, is_within, numbers_from, size_of, column_major, cells_of}

pub join : {A : Type 0} (P : A → Type 0) (xs ys : List A) → AllByRecursion P xs → AllByRecursion P ys → AllByRecursion P (xs ++ ys)
join P [] ys h k = k
join P (x ∷ xs) ys h k = (h.0, join P xs ys h.1 k)

-- lo and hi are the bounds of a dimension
abbrev Between : ℤ → ℤ → ℤ → Type 0
Between lo hi i = (lo ≤ℤ i) × (i ≤ℤ hi)

numbers-between : (lo hi z : ℤ) (k : ℕ) → lo ≤ℤ z → (z +ℤ pos k) ≤ℤ (hi +ℤ pos 1) → AllByRecursion (Between lo hi) (numbers_from z k)
numbers-between lo hi z zero h e = tt
numbers-between lo hi z (suc k) h e = ((h, omega (arith, ints)), numbers-between lo hi (z +ℤ pos 1) k (omega (arith, ints)) (omega (arith, ints)))

dimension-between : (lo hi : ℤ) → AllByRecursion (Between lo hi) (numbers_from lo (size_of (lo, hi)))
dimension-between lo hi = by (hi -ℤ lo) refl
  where
    by : (d : ℤ) → hi -ℤ lo ≡ d → AllByRecursion (Between lo hi) (numbers_from lo (elim d [ pos n ↦ n + 1 | negsuc n ↦ 0 ]))
    by (pos n) e = numbers-between lo hi lo (n + 1) (omega (arith, ints)) (omega (arith, ints))
    by (negsuc n) e = tt

both_true : (a b c : Bool) → a ≡ true → b ≡ true → c ≡ true → (a && (b && c)) ≡ true
both_true true true true p q r = refl
both_true true true false p q r = cc
both_true true false c p q r = cc
both_true false b c p q r = cc

placed : (b : ℤ × ℤ) (bs : List (ℤ × ℤ)) (rest : List ℤ) (xs : List ℤ) → is_within bs rest ≡ true → AllByRecursion (Between b.0 b.1) xs
    → AllByRecursion (λ is. is_within (b ∷ bs) is ≡ true) (map (λ x. x ∷ rest) xs)
placed b bs rest [] h k = tt
placed b bs rest (x ∷ xs) h k =
    let l : int_le b.0 x ≡ true = (let p = k.0.0 in grind (arith, ints)) in
    let u : int_le x b.1 ≡ true = (let p = k.0.1 in grind (arith, ints)) in
    (both_true (int_le b.0 x) (int_le x b.1) (is_within bs rest) l u h, placed b bs rest xs h k.1)

spread : (b : ℤ × ℤ) (bs : List (ℤ × ℤ)) (xs : List ℤ) (ys : List (List ℤ)) → AllByRecursion (Between b.0 b.1) xs → AllByRecursion (λ is. is_within bs is ≡ true) ys
    → AllByRecursion (λ is. is_within (b ∷ bs) is ≡ true) (flat_map (λ rest. map (λ x. x ∷ rest) xs) ys)
spread b bs xs [] h k = tt
spread b bs xs (rest ∷ ys) h k = join _ (map (λ x. x ∷ rest) xs) _ (placed b bs rest xs k.0 h) (spread b bs xs ys h k.1)

subscripts-within : (bs : List (ℤ × ℤ)) → AllByRecursion (λ is. is_within bs is ≡ true) (column_major (map (λ b. numbers_from b.0 (size_of b)) bs))
subscripts-within [] = (refl, tt)
subscripts-within (b ∷ bs) = spread b bs (numbers_from b.0 (size_of b)) _ (dimension-between b.0 b.1) (subscripts-within bs)

named : (x : List ℕ) (bs : List (ℤ × ℤ)) (iss : List (List ℤ)) → AllByRecursion (λ is. is_within bs is ≡ true) iss
    → AllByRecursion (λ (c : Cell). (c.name ≡ x) × (is_within bs c.subscripts ≡ true)) (map (λ is. record { name = x; subscripts = is }) iss)
named x bs [] h = tt
named x bs (is ∷ iss) h = ((refl, h.0), named x bs iss h.1)

pub cells-within : (x : List ℕ) (bs : List (ℤ × ℤ)) → AllByRecursion (λ (c : Cell). (c.name ≡ x) × (is_within bs c.subscripts ≡ true)) (cells_of x bs)
cells-within x bs = named x bs _ (subscripts-within bs)

-- ---- and all of these

pub Contains-here : {A : Type 0} (x : A) (xs : List A) → Contains (x ∷ xs) x
Contains-here x xs = Contains-append_left (x ∷ []) xs x (Contains-push [] x)

pub Contains-later : {A : Type 0} (y : A) (xs : List A) (x : A) → Contains xs x → Contains (y ∷ xs) x
Contains-later y xs x h = Contains-append_right (y ∷ []) xs x h

numbers-contain : (z i : ℤ) (k : ℕ) → z ≤ℤ i → (i +ℤ pos 1) ≤ℤ (z +ℤ pos k) → Contains (numbers_from z k) i
numbers-contain z i zero l u = absurd (omega (arith, ints))
numbers-contain z i (suc k) l u = by (int_le i z) refl (numbers-contain (z +ℤ pos 1) i k)
  where
    by : (b : Bool) → int_le i z ≡ b → ((z +ℤ pos 1) ≤ℤ i → (i +ℤ pos 1) ≤ℤ (z +ℤ pos 1 +ℤ pos k) → Contains (numbers_from (z +ℤ pos 1) k) i) → Contains (z ∷ numbers_from (z +ℤ pos 1) k) i
    by true e more =
        let m : i ≤ℤ z = grind (arith, ints) in
        let same : z ≡ i = omega (arith, ints) in
        subst (λ y. Contains (z ∷ numbers_from (z +ℤ pos 1) k) y) same (Contains-here z (numbers_from (z +ℤ pos 1) k))
    by false e more =
        let m : (z +ℤ pos 1) ≤ℤ i = grind (arith, ints) in
        Contains-later z (numbers_from (z +ℤ pos 1) k) i (more m (omega (arith, ints)))

dimension-contains : (lo hi i : ℤ) → lo ≤ℤ i → i ≤ℤ hi → Contains (numbers_from lo (size_of (lo, hi))) i
dimension-contains lo hi i l u = by (hi -ℤ lo) refl
  where
    by : (d : ℤ) → hi -ℤ lo ≡ d → Contains (numbers_from lo (elim d [ pos n ↦ n + 1 | negsuc n ↦ 0 ])) i
    by (pos n) e = numbers-contain lo i (n + 1) l (omega (arith, ints))
    by (negsuc n) e = absurd (omega (arith, ints))

-- ---- lists

weaker : {A : Type 0} (P Q : A → Type 0) → ((x : A) → P x → Q x) → (xs : List A) → AllByRecursion P xs → AllByRecursion Q xs
weaker P Q f [] h = tt
weaker P Q f (x ∷ xs) h = (f x h.0, weaker P Q f xs h.1)

unmapped : {A B : Type 0} (f : A → B) (P : B → Type 0) (xs : List A) → AllByRecursion P (map f xs) → AllByRecursion (λ x. P (f x)) xs
unmapped f P [] h = tt
unmapped f P (x ∷ xs) h = (h.0, unmapped f P xs h.1)

Contains-mapped : {A B : Type 0} (f : A → B) (xs : List A) (x : A) → Contains xs x → Contains (map f xs) (f x)
Contains-mapped f xs x h = All-contains (λ y. Contains (map f xs) (f y)) xs x
    (All-from_recursion (λ y. Contains (map f xs) (f y)) xs (unmapped f (Contains (map f xs)) xs (recursion_from_All (Contains (map f xs)) (map f xs) (All-contains_itself (map f xs))))) h

flat_map-contains : {A B : Type 0} (f : A → List B) (z : B) (ys : List A) → AllByRecursion (λ y. Contains (f y) z → Contains (flat_map f ys) z) ys
flat_map-contains f z [] = tt
flat_map-contains f z (y ∷ ys) = (
  λ h. Contains-append_left (f y) (flat_map f ys) z h,
  weaker (λ x. Contains (f x) z → Contains (flat_map f ys) z) (λ x. Contains (f x) z → Contains (flat_map f (y ∷ ys)) z) (λ x h k. Contains-append_right (f y) (flat_map f ys) z (h k)) ys (flat_map-contains f z ys),
)

spread-contains : (xs : List ℤ) (ys : List (List ℤ)) (i : ℤ) (is : List ℤ) → Contains xs i → Contains ys is → Contains (flat_map (λ rest. map (λ x. x ∷ rest) xs) ys) (i ∷ is)
spread-contains xs ys i is h k = All-contains (λ rest. Contains (map (λ x. x ∷ rest) xs) (i ∷ is) → Contains (flat_map (λ rest. map (λ x. x ∷ rest) xs) ys) (i ∷ is)) ys is
    (All-from_recursion (λ rest. Contains (map (λ x. x ∷ rest) xs) (i ∷ is) → Contains (flat_map (λ rest. map (λ x. x ∷ rest) xs) ys) (i ∷ is)) ys (flat_map-contains (λ rest. map (λ x. x ∷ rest) xs) (i ∷ is) ys)) k
    (Contains-mapped (λ x. x ∷ is) xs i h)

three_true : (a b c : Bool) → (a && (b && c)) ≡ true → (a ≡ true) × (b ≡ true) × (c ≡ true)
three_true true true true e = (refl, refl, refl)
three_true true true false e = cc
three_true true false c e = cc
three_true false b c e = cc

subscripts-contain : (bs : List (ℤ × ℤ)) (is : List ℤ) → is_within bs is ≡ true → Contains (column_major (map (λ b. numbers_from b.0 (size_of b)) bs)) is
subscripts-contain [] [] e = Contains-here [] []
subscripts-contain [] (i ∷ is) e = cc
subscripts-contain (b ∷ bs) [] e = cc
subscripts-contain (b ∷ bs) (i ∷ is) e =
    let h = three_true (int_le b.0 i) (int_le i b.1) (is_within bs is) e in
    let p = h.0 in
    let q = h.1 in
    let l : b.0 ≤ℤ i = grind (arith, ints) in
    let u : i ≤ℤ b.1 = grind (arith, ints) in
    spread-contains (numbers_from b.0 (size_of b)) _ i is (dimension-contains b.0 b.1 i l u) (subscripts-contain bs is h.2)

renamed : (x : List ℕ) (c : Cell) → c.name ≡ x → ◌≡◌ {A = Cell} (record { name = x; subscripts = c.subscripts }) c
renamed x c e = λ i. record { name = sym e i; subscripts = c.subscripts }

pub cells_are_within : (x : List ℕ) (bs : List (ℤ × ℤ)) (c : Cell) → Contains (cells_of x bs) c ↔ ((c.name ≡ x) × (is_within bs c.subscripts ≡ true))
cells_are_within x bs c = (
  λ h. All-contains (λ (d : Cell). (d.name ≡ x) × (is_within bs d.subscripts ≡ true)) (cells_of x bs) c (All-from_recursion _ (cells_of x bs) (cells-within x bs)) h,
  λ h. subst (Contains (cells_of x bs)) (renamed x c h.0) (Contains-mapped (λ is. let d : Cell = record { name = x; subscripts = is } in d) _ c.subscripts (subscripts-contain bs c.subscripts h.1)),
)
