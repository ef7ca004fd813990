-- The cells that a reference selects, by their positions; and the element of a name at one of them.
use Rattle.std.proofs.Common.{◌≡◌, refl, sym, ap, ◌∙◌, subst, ◌⊎◌, inl, inr, ℕ, zero, suc, ◌+◌, ℤ, pos, ◌+ℤ◌, ◌*ℤ◌, List, [], ◌∷◌, ◌++◌, map, length, Result, Ok, Err, Option, Some, None, arith, Contains}
use Rattle.std.proofs.Math.IntN.{zero-*ℤ, suc_ℤ-*ℤ, +ℤ_assoc, +ℤ_comm, +ℤ_idr}
use Rattle.std.specs.List.{flat_map}
use mathlib.Core.Path.{ap₂}
use Rattle.tree.specs.Plain.{Subscripts}
use Rattle.tree.specs.Steps.{◌>>=◌}
use Rattle.tree.specs.declared.ops.Fault.{Fault}
use Rattle.tree.specs.declared.ops.Value.{Value}
use Rattle.meaning.specs.ArrayValues.{Array, Elements, each, counted, positions, place_of, size, value_at_index, settled}
use Rattle.meaning.specs.Sections.{Axis, Fixed, Along, Selector, axes_selected, numbers_of, extents_of, cells_along}
use Rattle.meaning.specs.Store.{Cell, column_major, bounds_in}
use Rattle.meaning.specs.Value.{selectors}
use Rattle.meaning.proofs.ArrayLaws.{places, settled-whole}
use Rattle.meaning_laws.specs.arrays.Elements.{number_at, subscripts_at, cell_at_position, CellsByPosition, ElementOfSection, NumberOfTriplet}
use Rattle.meaning_laws.proofs.arrays.Members.{nowhere, cases_of}

-- ---- lists

map_append : {A B : Type 0} (f : A → B) (xs ys : List A) → map f (xs ++ ys) ≡ map f xs ++ map f ys
map_append f [] ys = refl
map_append f (x ∷ xs) ys = ap (λ zs. f x ∷ zs) (map_append f xs ys)

map_map : {A B C : Type 0} (f : B → C) (g : A → B) (xs : List A) → map f (map g xs) ≡ map (λ x. f (g x)) xs
map_map f g [] = refl
map_map f g (x ∷ xs) = ap (λ zs. f (g x) ∷ zs) (map_map f g xs)

pub length_map : {A B : Type 0} (f : A → B) (xs : List A) → length (map f xs) ≡ length xs
length_map f [] = refl
length_map f (x ∷ xs) = ap (λ n. suc n) (length_map f xs)

-- ---- the numbers of one dimension

-- the numbers at places from k on, of a list that has k numbers before these
numbers_from_place : (zs : List ℤ) (k : ℕ) (f : ℕ → ℤ) → ((i : ℕ) → f (k + i) ≡ number_at zs i) → map f (counted k (length zs)) ≡ zs
numbers_from_place [] k f h = refl
numbers_from_place (z ∷ zs) k f h =
    ap₂ (λ y ys. y ∷ ys) (ap f (let e : k ≡ k + 0 = omega arith in e) ∙ h 0)
    (numbers_from_place zs (k + 1) f (λ i. ap f (let e : k + 1 + i ≡ k + suc i = omega arith in e) ∙ h (suc i)))

numbers_at_places : (zs : List ℤ) → map (number_at zs) (counted 0 (length zs)) ≡ zs
numbers_at_places zs = numbers_from_place zs 0 (number_at zs) (λ i. ap (number_at zs) (let e : 0 + i ≡ i = omega arith in e))

-- ---- all dimensions

-- one number alone before each
one_number : (z : ℤ) (axes : List Axis) (iss : List (List ℕ)) → flat_map (λ rest. map (λ x. x ∷ rest) (z ∷ [])) (map (subscripts_at axes) iss) ≡ map (subscripts_at (Fixed z ∷ axes)) iss
one_number z axes [] = refl
one_number z axes (is ∷ iss) = ap (λ more. (z ∷ subscripts_at axes is) ∷ more) (one_number z axes iss)

one_place : (zs : List ℤ) (axes : List Axis) (is : List ℕ) → map (subscripts_at (Along zs ∷ axes)) (map (λ i. i ∷ is) (counted 0 (length zs))) ≡ map (λ x. x ∷ subscripts_at axes is) zs
one_place zs axes is =
    map_map (subscripts_at (Along zs ∷ axes)) (λ i. i ∷ is) (counted 0 (length zs))
    ∙ (sym (map_map (λ x. x ∷ subscripts_at axes is) (number_at zs) (counted 0 (length zs)))
    ∙ ap (map (λ x. x ∷ subscripts_at axes is)) (numbers_at_places zs))

each_place : (zs : List ℤ) (axes : List Axis) (iss : List (List ℕ))
    → flat_map (λ rest. map (λ x. x ∷ rest) zs) (map (subscripts_at axes) iss) ≡ map (subscripts_at (Along zs ∷ axes)) (flat_map (λ rest. map (λ i. i ∷ rest) (counted 0 (length zs))) iss)
each_place zs axes [] = refl
each_place zs axes (is ∷ iss) =
    ap₂ (λ xs ys. xs ++ ys) (sym (one_place zs axes is)) (each_place zs axes iss)
    ∙ sym (map_append (subscripts_at (Along zs ∷ axes)) (map (λ i. i ∷ is) (counted 0 (length zs))) (flat_map (λ rest. map (λ i. i ∷ rest) (counted 0 (length zs))) iss))

subscripts_by_position : (axes : List Axis) → column_major (map numbers_of axes) ≡ map (subscripts_at axes) (positions (extents_of axes))
subscripts_by_position [] = refl
subscripts_by_position (Fixed z ∷ axes) = ap (flat_map (λ rest. map (λ x. x ∷ rest) (z ∷ []))) (subscripts_by_position axes) ∙ one_number z axes (positions (extents_of axes))
subscripts_by_position (Along zs ∷ axes) = ap (flat_map (λ rest. map (λ x. x ∷ rest) zs)) (subscripts_by_position axes) ∙ each_place zs axes (positions (extents_of axes))

abbrev cell_with : List ℕ → List ℤ → Cell
cell_with x zs = record { name = x; subscripts = zs }

pub cells_by_position : CellsByPosition
cells_by_position x axes = ap (map (cell_with x)) (subscripts_by_position axes) ∙ map_map (cell_with x) (subscripts_at axes) (positions (extents_of axes))

-- ---- the element at a position

length_counted : (k n : ℕ) → length (counted k n) ≡ n
length_counted k zero = refl
length_counted k (suc n) = ap (λ m. suc m) (length_counted (k + 1) n)

pub number_of_positions : (ns : List ℕ) → length (positions ns) ≡ size ns
number_of_positions ns = sym (length_map (place_of ns) (positions ns)) ∙ (ap length (places ns) ∙ length_counted 0 (size ns))

-- what is known of all is known of each
one_of_each : {A B : Type 0} (g : A → Result B Fault) (h : A → B) (xs : List A) → each g xs ≡ Ok (map h xs) → (x : A) → Contains xs x → g x ≡ Ok (h x)
one_of_each g h [] e x k = absurd (nowhere x k)
one_of_each {A} {B} g h (y ∷ ys) e x k = by (g y) refl (each g ys) refl e (one_of_each g h ys) (cases_of y ys x k)
  where
    by : (r : Result B Fault) → g y ≡ r → (q : Result (List B) Fault) → each g ys ≡ q → (do z ← r; zs ← q; Ok (z ∷ zs)) ≡ Ok (h y ∷ map h ys)
        → (each g ys ≡ Ok (map h ys) → (z : A) → Contains ys z → g z ≡ Ok (h z)) → (y ≡ x) ⊎ Contains ys x → g x ≡ Ok (h x)
    by (Ok z) p (Ok zs) q e more (inl s) = subst (λ w. g w ≡ Ok (h w)) s (let same : z ≡ h y = cc in p ∙ ap Ok same)
    by (Ok z) p (Ok zs) q e more (inr c) = more (let same : zs ≡ map h ys = cc in q ∙ ap Ok same) x c
    by (Ok z) p (Err f) q e more c = absurd cc
    by (Err f) p r q e more c = absurd cc

values_in : Result Array Fault → List Value
values_in (Ok a) = a.values
values_in (Err f) = []

values_known : (ns : List ℕ) (r : Result (List Value) Fault) (vs : List Value) → ◌≡◌ {A = Result Array Fault} (do ws ← r; Ok (record { extents = ns; values = ws })) (Ok (record { extents = ns; values = vs })) → r ≡ Ok vs
unfolding values_in
values_known ns (Ok ws) vs e = ap Ok (ap values_in e)
values_known ns (Err f) vs e = absurd cc

-- values in the order of the positions
pub value_there : (ns : List ℕ) (v : List ℕ → Value) (is : List ℕ) → Contains (positions ns) is → value_at_index (map v (positions ns)) (place_of ns is) ≡ Ok (v is)
value_there ns v is k =
    let vs = map v (positions ns) in
    let all = values_known ns (each (λ js. value_at_index vs (place_of ns js)) (positions ns)) vs (settled-whole ns vs (length_map v (positions ns) ∙ number_of_positions ns)) in
    one_of_each (λ js. value_at_index vs (place_of ns js)) v (positions ns) all is k

held_there : (x : List ℕ) (axes : List Axis) (h : Cell → Value) (is : List ℕ) → Contains (positions (extents_of axes)) is
    → value_at_index (map h (cells_along x axes)) (place_of (extents_of axes) is) ≡ Ok (h (cell_at_position x axes is))
held_there x axes h is k =
    ap (λ vs. value_at_index vs (place_of (extents_of axes) is)) (ap (map h) (cells_by_position x axes) ∙ map_map h (cell_at_position x axes) (positions (extents_of axes)))
    ∙ value_there (extents_of axes) (λ js. h (cell_at_position x axes js)) is k

-- the array of a name, when its axes are known
pub section_of : (h : Cell → Value) (x : List ℕ) (ps : Subscripts) (axes : List Axis) (r : Result (List Selector) Fault) (o : Option (List (ℤ × ℤ)))
    → (do zs ← r; bs ← bounds_in o; axes_selected ps bs zs) ≡ Ok axes
    → ◌≡◌ {A = Result (Elements Value) Fault} (do zs ← r; bs ← bounds_in o; axes ← axes_selected ps bs zs; Ok (settled (record { extents = extents_of axes; values = map h (cells_along x axes) })))
    (Ok (settled (record { extents = extents_of axes; values = map h (cells_along x axes) })))
section_of h x ps axes (Err f) o e = absurd cc
section_of h x ps axes (Ok zs) None e = absurd cc
section_of h x ps axes (Ok zs) (Some bs) e = ap (λ (q : Result (List Axis) Fault). do axes ← q; Ok (settled (record { extents = extents_of axes; values = map h (cells_along x axes) }))) e

pub element_of_section : ElementOfSection
element_of_section d x ps s axes is e k =
    ap (λ (r : Result (Elements Value) Fault). do g ← r; g.at is) (section_of s.held x ps axes (selectors d ps s) (s.bounds x) e)
    ∙ held_there x axes s.held is k

-- ---- the numbers of a triplet

first_of_triplet : (z k : ℤ) → z ≡ z +ℤ pos 0 *ℤ k
first_of_triplet z k = sym (ap (λ y. z +ℤ y) (zero-*ℤ k) ∙ +ℤ_idr z)

next_of_triplet : (z k : ℤ) (i : ℕ) → z +ℤ k +ℤ pos i *ℤ k ≡ z +ℤ pos (suc i) *ℤ k
next_of_triplet z k i = +ℤ_assoc z k (pos i *ℤ k) ∙ ap (λ y. z +ℤ y) (+ℤ_comm k (pos i *ℤ k) ∙ sym (suc_ℤ-*ℤ (pos i) k))

pub number_of_triplet : NumberOfTriplet
number_of_triplet z k i zero l = absurd (omega (arith, l))
number_of_triplet z k zero (suc n) l = first_of_triplet z k
number_of_triplet z k (suc i) (suc n) l = number_of_triplet (z +ℤ k) k i n (omega (arith, l)) ∙ next_of_triplet z k i
