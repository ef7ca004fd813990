-- An instance does the same whatever the order of the loops round it is.
use Rattle.std.proofs.Common.{◌≡◌, refl, sym, ap, ◌∙◌, inl, inr, ℕ, zero, suc, ℤ, pos, List, [], ◌∷◌, length, map, arith}
use Rattle.tree.specs.declared.ops.Value.TheVariants.{Int}
use Rattle.meaning.specs.Store.{Cell, Store}
use Rattle.meaning.specs.Value.{bound_to}
use Rattle.meaning.proofs.Exchanges.{put-put}
use Rattle.nest_order.specs.orders.Lists.{Distinct, Each, In}
use Rattle.nest_order.specs.runs.Guarded.{at_iterations, variable_cell}
use Rattle.interchange_laws.specs.orders.Moves.{rearranged, swapped}
use Rattle.interchange_laws.proofs.orders.Moves.{Distinct_rearranged}

-- two different variables may be set in either order
pub bound-bound : (x y : List ℕ) (a b : ℤ) (s : Store) → ¬ (x ≡ y) → bound_to x a (bound_to y b s) ≡ bound_to y b (bound_to x a s)
bound-bound x y a b s apart = put-put (variable_cell x) (variable_cell y) (Int a) (Int b) s (λ e. apart (ap (λ (c : Cell). c.name) e))

at_swapped : (p : ℕ) (xs : List (List ℕ)) (is : List ℕ) (s : Store) → Distinct xs → length xs ≡ length is → at_iterations (swapped p xs) (swapped p is) s ≡ at_iterations xs is s
at_swapped zero [] [] s d e = refl
at_swapped zero [] (i ∷ is) s d e = absurd (let f : 0 ≡ suc (length is) = e in omega arith)
at_swapped zero (x ∷ xs) [] s d e = absurd (let f : suc (length xs) ≡ 0 = e in omega arith)
at_swapped zero (x ∷ []) (i ∷ []) s d e = refl
at_swapped zero (x ∷ []) (i ∷ j ∷ is) s d e = absurd (let f : suc 0 ≡ suc (suc (length is)) = e in omega arith)
at_swapped zero (x ∷ y ∷ xs) (i ∷ []) s d e = absurd (let f : suc (suc (length xs)) ≡ suc 0 = e in omega arith)
at_swapped zero (x ∷ y ∷ xs) (i ∷ j ∷ is) s d e = ap (λ t. at_iterations xs is t) (bound-bound x y (pos i) (pos j) s d.0.0)
at_swapped (suc p) [] [] s d e = refl
at_swapped (suc p) [] (i ∷ is) s d e = absurd (let f : 0 ≡ suc (length is) = e in omega arith)
at_swapped (suc p) (x ∷ xs) [] s d e = absurd (let f : suc (length xs) ≡ 0 = e in omega arith)
at_swapped (suc p) (x ∷ xs) (i ∷ is) s d e = at_swapped p xs is (bound_to x (pos i) s) d.1 (let f : suc (length xs) ≡ suc (length is) = e in omega arith)

swapped_length : {X : Type 0} (p : ℕ) (xs : List X) → length (swapped p xs) ≡ length xs
swapped_length zero [] = refl
swapped_length zero (x ∷ []) = refl
swapped_length zero (x ∷ y ∷ zs) = refl
swapped_length (suc p) [] = refl
swapped_length (suc p) (x ∷ xs) = ap suc (swapped_length p xs)

pub at_rearranged : (ps : List ℕ) (xs : List (List ℕ)) (is : List ℕ) (s : Store) → Distinct xs → length xs ≡ length is → at_iterations (rearranged ps xs) (rearranged ps is) s ≡ at_iterations xs is s
at_rearranged [] xs is s d e = refl
at_rearranged (p ∷ ps) xs is s d e =
    at_rearranged ps (swapped p xs) (swapped p is) s (Distinct_rearranged (p ∷ []) xs d) (swapped_length p xs ∙ (e ∙ sym (swapped_length p is))) ∙ at_swapped p xs is s d e

map_swapped : {X Y : Type 0} (f : X → Y) (p : ℕ) (xs : List X) → map f (swapped p xs) ≡ swapped p (map f xs)
map_swapped f zero [] = refl
map_swapped f zero (x ∷ []) = refl
map_swapped f zero (x ∷ y ∷ zs) = refl
map_swapped f (suc p) [] = refl
map_swapped f (suc p) (x ∷ xs) = ap (λ zs. f x ∷ zs) (map_swapped f p xs)

pub map_rearranged : {X Y : Type 0} (f : X → Y) (ps : List ℕ) (xs : List X) → map f (rearranged ps xs) ≡ rearranged ps (map f xs)
map_rearranged f [] xs = refl
map_rearranged f (p ∷ ps) xs = map_rearranged f ps (swapped p xs) ∙ ap (rearranged ps) (map_swapped f p xs)

-- what stands in the rearranged list
swapped_In : {X : Type 0} (x : X) (p : ℕ) (xs : List X) → In x xs → In x (swapped p xs)
swapped_In x zero [] i = i
swapped_In x zero (y ∷ []) i = i
swapped_In x zero (y ∷ z ∷ zs) (inl e) = inr (inl e)
swapped_In x zero (y ∷ z ∷ zs) (inr (inl e)) = inl e
swapped_In x zero (y ∷ z ∷ zs) (inr (inr i)) = inr (inr i)
swapped_In x (suc p) [] i = i
swapped_In x (suc p) (y ∷ ys) (inl e) = inl e
swapped_In x (suc p) (y ∷ ys) (inr i) = inr (swapped_In x p ys i)

pub rearranged_In : {X : Type 0} (x : X) (ps : List ℕ) (xs : List X) → In x xs → In x (rearranged ps xs)
rearranged_In x [] xs i = i
rearranged_In x (p ∷ ps) xs i = rearranged_In x ps (swapped p xs) (swapped_In x p xs i)

-- different loops have different variables
pub distinct_variables : (f : ℕ → List ℕ) (ls : List ℕ) → ((l m : ℕ) → In l ls → In m ls → f l ≡ f m → l ≡ m) → Distinct ls → Distinct (map f ls)
distinct_variables f [] own d = tt
distinct_variables f (l ∷ ls) own d = (apart ls (λ m i. i) d.0, distinct_variables f ls (λ a b i j e. own a b (inr i) (inr j) e) d.1)
  where
    apart : (ms : List ℕ) → ((m : ℕ) → In m ms → In m ls) → Each (λ m. ¬ (l ≡ m)) ms → Each (λ y. ¬ (f l ≡ y)) (map f ms)
    apart [] inside h = tt
    apart (m ∷ ms) inside h = ((λ e. h.0 (own l m (inl refl) (inr (inside m (inl refl))) e)), apart ms (λ k i. inside k (inr i)) h.1)
