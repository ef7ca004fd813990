-- Arrays in whole: the elements at all positions are the values, in their order.
use Rattle.std.proofs.Common.{◌≡◌, refl, sym, ap, ◌∙◌, ℕ, zero, suc, ◌+◌, ◌*◌, ℤ, pos, negsuc, ◌-ℤ◌, ◌+ℤ◌, List, [], ◌∷◌, ◌++◌, map, length, Result, Ok, Err, Option, Some, None, arith, append_assoc, append-nil}
use Rattle.std.proofs.Common.{length-append}
use Rattle.std.specs.List.{flat_map}
use mathlib.Core.Path.{ap₂}
use Rattle.tree.specs.Steps.{◌>>=◌}
use Rattle.tree.specs.Plain.{Named, no_subscripts}
use Rattle.tree.specs.declared.ops.Value.{Value}
use Rattle.tree.specs.declared.ops.Fault.{Fault}
use Rattle.meaning.specs.Store.{Store, Cell, column_major, numbers_from, size_of, bounds_in, cells_of}
use Rattle.meaning.specs.Dialect.{Dialect}
use Rattle.meaning.specs.ArrayValues.{Array, Elements, each, counted, positions, place_of, size, value_at_index, settled, in_whole}
use Rattle.meaning.specs.Sections.{Axis, Along, whole_axes, numbers_of, extents_of, cells_along}
use Rattle.meaning.specs.Value.{all_elements, item_cells, array_of}

-- ---- lists

map-append : {A B : Type 0} (f : A → B) (xs ys : List A) → map f (xs ++ ys) ≡ map f xs ++ map f ys
map-append f [] ys = refl
map-append f (x ∷ xs) ys = ap (λ zs. f x ∷ zs) (map-append f xs ys)

map-map : {A B C : Type 0} (f : B → C) (g : A → B) (xs : List A) → map f (map g xs) ≡ map (λ x. f (g x)) xs
map-map f g [] = refl
map-map f g (x ∷ xs) = ap (λ zs. f (g x) ∷ zs) (map-map f g xs)

length-map : {A B : Type 0} (f : A → B) (xs : List A) → length (map f xs) ≡ length xs
length-map f [] = refl
length-map f (x ∷ xs) = ap (λ n. suc n) (length-map f xs)

each-map : {A B C : Type 0} (f : B → Result C Fault) (g : A → B) (xs : List A) → each f (map g xs) ≡ each (λ x. f (g x)) xs
each-map f g [] = refl
each-map f g (x ∷ xs) = ap (λ r. do y ← f (g x); ys ← r; Ok (y ∷ ys)) (each-map f g xs)

plus_zero : (k : ℕ) → k ≡ k + 0
plus_zero k = omega arith

zero_plus : (n : ℕ) → zero + n ≡ n
zero_plus n = omega arith

suc_plus : (m n : ℕ) → suc m + n ≡ suc (m + n)
suc_plus m n = omega arith

one_later : (k m : ℕ) → k + 1 + m ≡ k + suc m
one_later k m = omega arith

one_shifted : (k j : ℕ) → k + 1 + j ≡ k + j + 1
one_shifted k j = omega arith

counted-append : (k m n : ℕ) → counted k (m + n) ≡ counted k m ++ counted (k + m) n
counted-append k zero n = ap₂ counted (plus_zero k) (zero_plus n)
counted-append k (suc m) n = ap (counted k) (suc_plus m n) ∙ ap (λ zs. k ∷ zs) (counted-append (k + 1) m n ∙ ap (λ j. counted (k + 1) m ++ counted j n) (one_later k m))

counted-shifted : (j k n : ℕ) → map (λ x. x + j) (counted k n) ≡ counted (k + j) n
counted-shifted j k zero = refl
counted-shifted j k (suc n) = ap (λ (zs : List ℕ). (k + j) ∷ zs) (counted-shifted j (k + 1) n ∙ ap (λ i. counted i n) (one_shifted k j))

length-counted : (k n : ℕ) → length (counted k n) ≡ n
length-counted k zero = refl
length-counted k (suc n) = ap (λ m. suc m) (length-counted (k + 1) n)

-- ---- the places of all positions are all places

-- k rows of n places each
times_zero : (n : ℕ) → zero ≡ n * 0
times_zero n = omega arith

by_one : (n j : ℕ) → n * (j + 1) ≡ n * j + n
by_one n j = omega arith

row_more : (n m : ℕ) → n + n * m ≡ n * suc m
row_more n m = omega arith

rows : (n j m : ℕ) → flat_map (λ k. map (λ x. x + n * k) (counted 0 n)) (counted j m) ≡ counted (n * j) (n * m)
rows n j zero = ap (λ k. counted (n * j) k) (times_zero n)
rows n j (suc m) =
    ap₂ (λ (xs ys : List ℕ). xs ++ ys) (counted-shifted (n * j) 0 n ∙ ap (λ k. counted k n) (zero_plus (n * j))) (rows n (j + 1) m ∙ ap (λ k. counted k (n * m)) (by_one n j))
    ∙ (sym (counted-append (n * j) n (n * m)) ∙ ap (λ k. counted (n * j) k) (row_more n m))

places-of-rows : (n : ℕ) (ns : List ℕ) (iss : List (List ℕ)) → map (place_of (n ∷ ns)) (flat_map (λ rest. map (λ x. x ∷ rest) (counted 0 n)) iss)
    ≡ flat_map (λ k. map (λ x. x + n * k) (counted 0 n)) (map (place_of ns) iss)
places-of-rows n ns [] = refl
places-of-rows n ns (is ∷ iss) = map-append (place_of (n ∷ ns)) (map (λ x. x ∷ is) (counted 0 n)) _ ∙ ap₂ (λ xs ys. xs ++ ys) (map-map (place_of (n ∷ ns)) (λ x. x ∷ is) (counted 0 n)) (places-of-rows n ns iss)

pub places : (ns : List ℕ) → map (place_of ns) (positions ns) ≡ counted 0 (size ns)
places [] = refl
places (n ∷ ns) = places-of-rows n ns (positions ns) ∙ (ap (flat_map (λ k. map (λ x. x + n * k) (counted 0 n))) (places ns) ∙ (rows n 0 (size ns) ∙ ap (λ k. counted k (n * size ns)) (sym (times_zero n))))

-- ---- the values at all places

value_behind : (xs : List Value) (v : Value) (vs : List Value) → value_at_index (xs ++ v ∷ vs) (length xs) ≡ Ok v
value_behind [] v vs = refl
value_behind (x ∷ xs) v vs = value_behind xs v vs

values_from : (xs vs : List Value) → each (value_at_index (xs ++ vs)) (counted (length xs) (length vs)) ≡ Ok vs
values_from xs [] = refl
values_from xs (v ∷ vs) =
    ap₂ (λ (r : Result Value Fault) (q : Result (List Value) Fault). do y ← r; ys ← q; Ok (y ∷ ys)) (value_behind xs v vs)
    (ap₂ (λ ws k. each (value_at_index ws) (counted k (length vs))) (sym (append_assoc xs (v ∷ []) vs)) (sym (length-append xs (v ∷ [])))
    ∙ values_from (xs ++ v ∷ []) vs)

-- an array whose values are as many as its positions
pub settled-whole : (ns : List ℕ) (vs : List Value) → length vs ≡ size ns → in_whole (settled (record { extents = ns; values = vs })) ≡ Ok (record { extents = ns; values = vs })
settled-whole ns vs e = ap (λ (r : Result (List Value) Fault). do ws ← r; Ok (record { extents = ns; values = ws }))
    (sym (each-map (value_at_index vs) (place_of ns) (positions ns)) ∙ (ap (each (value_at_index vs)) (places ns ∙ ap (counted 0) (sym e)) ∙ values_from [] vs))

-- ---- a whole array by its name

length-numbers : (z : ℤ) (k : ℕ) → length (numbers_from z k) ≡ k
length-numbers z zero = refl
length-numbers z (suc k) = ap (λ n. suc n) (length-numbers (z +ℤ pos 1) k)

extents-whole : (bs : List (ℤ × ℤ)) → extents_of (whole_axes bs) ≡ map size_of bs
extents-whole [] = refl
extents-whole (b ∷ bs) = ap₂ (λ n ns. n ∷ ns) (length-numbers b.0 (size_of b)) (extents-whole bs)

length-rows : {A : Type 0} (xs : List A) (ys : List (List A)) → length (flat_map (λ rest. map (λ x. x ∷ rest) xs) ys) ≡ length xs * length ys
length-rows xs [] = times_zero (length xs)
length-rows xs (y ∷ ys) =
    length-append (map (λ x. x ∷ y) xs) _ ∙ (ap₂ (λ (m n : ℕ). m + n) (length-map (λ x. x ∷ y) xs) (length-rows xs ys) ∙ row_more (length xs) (length ys))

length-whole : (bs : List (ℤ × ℤ)) → length (column_major (map (λ (b : ℤ × ℤ). numbers_from b.0 (size_of b)) bs)) ≡ size (map size_of bs)
length-whole [] = refl
length-whole (b ∷ bs) = length-rows (numbers_from b.0 (size_of b)) _ ∙ ap₂ (λ m n. m * n) (length-numbers b.0 (size_of b)) (length-whole bs)

pub cells-whole : (x : List ℕ) (bs : List (ℤ × ℤ)) → cells_along x (whole_axes bs) ≡ cells_of x bs
cells-whole x bs = ap (λ xss. map (λ is. let c : Cell = record { name = x; subscripts = is } in c) (column_major xss)) (map-map numbers_of (λ (b : ℤ × ℤ). Along (numbers_from b.0 (size_of b))) bs)

pub whole_name : (d : Dialect) (x : List ℕ) (s : Store) → all_elements d (Named x no_subscripts) s ≡ (do cs ← item_cells d x no_subscripts s; Ok (map s.held cs))
whole_name d x s = by (s.bounds x)
  where
    by : (o : Option (List (ℤ × ℤ))) → ◌≡◌ {A = Result (List Value) Fault}
        (do g ← (do b ← bounds_in o; Ok (settled (record { extents = extents_of (whole_axes b); values = map s.held (cells_along x (whole_axes b)) }))); v ← in_whole g; Ok v.values)
        (do cs ← (do b ← bounds_in o; Ok (cells_of x b)); Ok (map s.held cs))
    by None = refl
    by (Some b) =
        let vs = map s.held (cells_along x (whole_axes b)) in
        let many : length vs ≡ size (extents_of (whole_axes b)) =
        length-map s.held (cells_along x (whole_axes b)) ∙ (ap length (cells-whole x b) ∙ (length-map _ (column_major (map (λ (b : ℤ × ℤ). numbers_from b.0 (size_of b)) b)) ∙ (length-whole b ∙ ap size (sym (extents-whole b))))) in
        ap (λ (r : Result Array Fault). do v ← r; Ok v.values) (settled-whole (extents_of (whole_axes b)) vs many) ∙ ap (λ cs. Ok (map s.held cs)) (cells-whole x b)
