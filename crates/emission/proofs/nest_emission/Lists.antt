-- Lists of different numbers.
use Rattle.std.proofs.Common.{◌≡◌, inl, inr, refl, sym, ap, subst, ℕ, zero, suc, ◌<◌, List, [], ◌∷◌, ◌++◌, length, get_or, map, arith}
use Rattle.std.specs.Prelude.{All}
use Rattle.std.specs.List.{concat}
use Rattle.components.specs.Lists.{IsMember, Each, Distinct}
use Rattle.components.proofs.ListLaws.{Each-In}
use Rattle.components.proofs.ClassLaws.{In-concat}

pub get_in : {X : Type 0} (xs : List X) (i : ℕ) (d : X) → i < length xs → IsMember (get_or xs i d) xs
get_in [] i d h = absurd (omega arith)
get_in (x ∷ xs) zero d h = inl refl
get_in (x ∷ xs) (suc i) d h = inr (get_in xs i d (omega arith))

pub in_all : {X : Type 0} (P : X → Type 0) (xs : List X) → All P xs → (x : X) → IsMember x xs → P x
in_all P [] h x i = absurd i
in_all P (y ∷ xs) h x (inl e) = subst P (sym e) (h 0 y (omega arith))
in_all P (y ∷ xs) h x (inr i) = in_all P xs (λ k d g. h (suc k) d (omega arith)) x i

pub all_in : {X : Type 0} (P : X → Type 0) (xs : List X) → ((x : X) → IsMember x xs → P x) → All P xs
all_in P xs h = λ k d g. h (get_or xs k d) (get_in xs k d g)

pub same_place : (xs : List ℕ) → Distinct xs → (i j : ℕ) → i < length xs → j < length xs → get_or xs i 0 ≡ get_or xs j 0 → i ≡ j
same_place [] once i j h k e = absurd (omega arith)
same_place (x ∷ xs) once zero zero h k e = refl
same_place (x ∷ xs) once zero (suc j) h k e =
    absurd (Each-In (λ y. ¬ (x ≡ y)) xs once.0 (get_or xs j 0) (get_in xs j 0 (omega arith)) e)
same_place (x ∷ xs) once (suc i) zero h k e =
    absurd (Each-In (λ y. ¬ (x ≡ y)) xs once.0 (get_or xs i 0) (get_in xs i 0 (omega arith)) (sym e))
same_place (x ∷ xs) once (suc i) (suc j) h k e = ap (λ z. suc z) (same_place xs once.1 i j (omega arith) (omega arith) e)

-- what is below a bound in all classes
pub all_below : (n : ℕ) (cs : List (List ℕ)) → ((a : ℕ) → IsMember a (concat cs) → a < n) → All (λ c. All (λ a. a < n) c) cs
all_below n cs h =
    all_in (λ c. All (λ a. a < n) c) cs (λ c i. all_in (λ a. a < n) c (λ a j. h a (In-concat a c cs i j)))

distinct_left : (xs ys : List ℕ) → Distinct (xs ++ ys) → Distinct xs
distinct_left [] ys h = tt
distinct_left (x ∷ xs) ys h = (each xs h.0, distinct_left xs ys h.1)
  where
    each : (xs : List ℕ) → Each (λ y. ¬ (x ≡ y)) (xs ++ ys) → Each (λ y. ¬ (x ≡ y)) xs
    each [] g = tt
    each (z ∷ xs) g = (g.0, each xs g.1)

distinct_right : (xs ys : List ℕ) → Distinct (xs ++ ys) → Distinct ys
distinct_right [] ys h = h
distinct_right (x ∷ xs) ys h = distinct_right xs ys h.1

pub distinct_class : (c : List ℕ) (cs : List (List ℕ)) → IsMember c cs → Distinct (concat cs) → Distinct c
distinct_class c [] i h = absurd i
distinct_class c (d ∷ cs) (inl e) h = subst Distinct (sym e) (distinct_left d (concat cs) h)
distinct_class c (d ∷ cs) (inr i) h = distinct_class c cs i (distinct_right d (concat cs) h)

pub in_map : {X Y : Type 0} (f : X → Y) (xs : List X) (x : X) → IsMember x xs → IsMember (f x) (map f xs)
in_map f [] x i = absurd i
in_map f (y ∷ xs) x (inl e) = inl (ap f e)
in_map f (y ∷ xs) x (inr i) = inr (in_map f xs x i)

pub map_in : {X Y : Type 0} (f : X → Y) (xs : List X) (y : Y) → IsMember y (map f xs) → (x : X) × IsMember x xs × (y ≡ f x)
map_in f [] y i = absurd i
map_in f (x ∷ xs) y (inl e) = (x, inl refl, e)
map_in f (x ∷ xs) y (inr i) = let k = map_in f xs y i in (k.0, inr k.1, k.2)
