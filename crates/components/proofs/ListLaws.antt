-- Lemmas on lists.
use Rattle.std.proofs.Common.{◌≡◌, refl, sym, subst, ◌⊎◌, inl, inr, ℕ, zero, suc, ◌<◌, length, get_or, Bool, true, false, cond, List, [], ◌∷◌, ◌++◌, arith}
use Rattle.std.proofs.lemmas.Bool.{both_ways}
use Rattle.std.specs.List.{filter}
use Rattle.components.specs.Lists.{IsMember, Each, Pairwise}

pub Each-In : {X : Type 0} (P : X → Type 0) (xs : List X) → Each P xs → (x : X) → IsMember x xs → P x
Each-In P [] h x i = absurd i
Each-In P (y ∷ ys) h x (inl e) = subst P (sym e) h.0
Each-In P (y ∷ ys) h x (inr i) = Each-In P ys h.1 x i

pub Each-from : {X : Type 0} (P : X → Type 0) (xs : List X) → ((x : X) → IsMember x xs → P x) → Each P xs
Each-from P [] h = tt
Each-from P (y ∷ ys) h = (h y (inl refl), Each-from P ys (λ x i. h x (inr i)))

pub Each-append : {X : Type 0} (P : X → Type 0) (xs ys : List X) → Each P xs → Each P ys → Each P (xs ++ ys)
Each-append P [] ys h k = k
Each-append P (x ∷ xs) ys h k = (h.0, Each-append P xs ys h.1 k)

pub In-left : {X : Type 0} (x : X) (xs ys : List X) → IsMember x xs → IsMember x (xs ++ ys)
In-left x [] ys i = absurd i
In-left x (y ∷ xs) ys (inl e) = inl e
In-left x (y ∷ xs) ys (inr i) = inr (In-left x xs ys i)

pub In-right : {X : Type 0} (x : X) (xs ys : List X) → IsMember x ys → IsMember x (xs ++ ys)
In-right x [] ys i = i
In-right x (y ∷ xs) ys i = inr (In-right x xs ys i)

pub In-append : {X : Type 0} (x : X) (xs ys : List X) → IsMember x (xs ++ ys) → IsMember x xs ⊎ IsMember x ys
In-append x [] ys i = inr i
In-append x (y ∷ xs) ys (inl e) = inl (inl e)
In-append x (y ∷ xs) ys (inr i) = by (In-append x xs ys i)
  where
    by : IsMember x xs ⊎ IsMember x ys → ((x ≡ y) ⊎ IsMember x xs) ⊎ IsMember x ys
    by (inl i) = inl (inr i)
    by (inr i) = inr i

pub Pairwise-append : {X : Type 0} (R : X → X → Type 0) (xs ys : List X) → Pairwise R xs → Pairwise R ys
    → ((x y : X) → IsMember x xs → IsMember y ys → R x y) → Pairwise R (xs ++ ys)
Pairwise-append R [] ys h k c = k
Pairwise-append R (x ∷ xs) ys h k c =
    (Each-append (R x) xs ys h.0 (Each-from (R x) ys (λ y i. c x y (inl refl) i)), Pairwise-append R xs ys h.1 k (λ u v i j. c u v (inr i) j))

pub Pairwise-weaker : {X : Type 0} (R Q : X → X → Type 0) → ((x y : X) → R x y → Q x y) → (xs : List X) → Pairwise R xs → Pairwise Q xs
Pairwise-weaker R Q w [] h = tt
Pairwise-weaker R Q w (x ∷ xs) h = (Each-from (Q x) xs (λ y i. w x y (Each-In (R x) xs h.0 y i)), Pairwise-weaker R Q w xs h.1)

-- ---- what passes a test

module _ {X : Type 0} (test : X → Bool) where
  pub filter-In : (xs : List X) (x : X) → IsMember x (filter test xs) → IsMember x xs × (test x ≡ true)
  filter-In [] x i = absurd i
  filter-In (y ∷ ys) x i = by (filter-In ys x) (test y) refl i
    where
      by : (IsMember x (filter test ys) → IsMember x ys × (test x ≡ true)) → (b : Bool) → test y ≡ b → IsMember x (cond b (y ∷ filter test ys) (filter test ys)) → ((x ≡ y) ⊎ IsMember x ys) × (test x ≡ true)
      by back true e (inl f) = (inl f, subst (λ z. test z ≡ true) (sym f) e)
      by back true e (inr j) = let k = back j in (inr k.0, k.1)
      by back false e j = let k = back j in (inr k.0, k.1)

  pub In-filter : (xs : List X) (x : X) → IsMember x xs → test x ≡ true → IsMember x (filter test xs)
  In-filter [] x i h = absurd i
  In-filter (y ∷ ys) x i h = by (λ j. In-filter ys x j h) (test y) refl i
    where
      by : (IsMember x ys → IsMember x (filter test ys)) → (b : Bool) → test y ≡ b → (x ≡ y) ⊎ IsMember x ys → IsMember x (cond b (y ∷ filter test ys) (filter test ys))
      by on true e (inl f) = inl f
      by on true e (inr j) = inr (on j)
      by on false e (inl f) = absurd (both_ways (test x) (subst (λ z. test z ≡ false) (sym f) e) h)
      by on false e (inr j) = on j

  pub Pairwise-filter : (R : X → X → Type 0) (xs : List X) → Pairwise R xs → Pairwise R (filter test xs)
  Pairwise-filter R [] h = tt
  Pairwise-filter R (x ∷ xs) h = by (Pairwise-filter R xs h.1) (test x)
    where
      by : Pairwise R (filter test xs) → (b : Bool) → Pairwise R (cond b (x ∷ filter test xs) (filter test xs))
      by k true = (Each-from (R x) (filter test xs) (λ y i. Each-In (R x) xs h.0 y (filter-In xs y i).0), k)
      by k false = k

pub Each-get : {X : Type 0} (P : X → Type 0) (xs : List X) → Each P xs → (i : ℕ) (d : X) → i < length xs → P (get_or xs i d)
Each-get P [] h i d l = absurd (omega arith)
Each-get P (x ∷ xs) h zero d l = h.0
Each-get P (x ∷ xs) h (suc i) d l = Each-get P xs h.1 i d (omega arith)
