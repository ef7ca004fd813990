-- Lemmas on lists.
use Rattle.std.proofs.Common.{◌≡◌, refl, sym, ap, subst, ◌⊎◌, inl, inr, List, [], ◌∷◌, ◌++◌}
use Rattle.nest_order.specs.orders.Lists.{Distinct, Each, In, Pairwise}

pub Each-In : {X : Type 0} (P : X → Type 0) (xs : List X) → Each P xs → (x : X) → In x xs → P x
Each-In P [] h x i = absurd i
Each-In P (y ∷ ys) h x (inl e) = subst P (sym e) h.0
Each-In P (y ∷ ys) h x (inr i) = Each-In P ys h.1 x i

pub Each-from : {X : Type 0} (P : X → Type 0) (xs : List X) → ((x : X) → In x xs → P x) → Each P xs
Each-from P [] h = tt
Each-from P (y ∷ ys) h = (h y (inl refl), Each-from P ys (λ x i. h x (inr i)))

pub Each-append : {X : Type 0} (P : X → Type 0) (xs ys : List X) → Each P xs → Each P ys → Each P (xs ++ ys)
Each-append P [] ys h k = k
Each-append P (x ∷ xs) ys h k = (h.0, Each-append P xs ys h.1 k)

pub Each-left : {X : Type 0} (P : X → Type 0) (xs ys : List X) → Each P (xs ++ ys) → Each P xs
Each-left P [] ys h = tt
Each-left P (x ∷ xs) ys h = (h.0, Each-left P xs ys h.1)

pub Each-right : {X : Type 0} (P : X → Type 0) (xs ys : List X) → Each P (xs ++ ys) → Each P ys
Each-right P [] ys h = h
Each-right P (x ∷ xs) ys h = Each-right P xs ys h.1

pub In-left : {X : Type 0} (x : X) (xs ys : List X) → In x xs → In x (xs ++ ys)
In-left x [] ys i = absurd i
In-left x (y ∷ xs) ys (inl e) = inl e
In-left x (y ∷ xs) ys (inr i) = inr (In-left x xs ys i)

pub In-right : {X : Type 0} (x : X) (xs ys : List X) → In x ys → In x (xs ++ ys)
In-right x [] ys i = i
In-right x (y ∷ xs) ys i = inr (In-right x xs ys i)

pub In-append : {X : Type 0} (x : X) (xs ys : List X) → In x (xs ++ ys) → In x xs ⊎ In x ys
In-append x [] ys i = inr i
In-append x (y ∷ xs) ys (inl e) = inl (inl e)
In-append x (y ∷ xs) ys (inr i) = by (In-append x xs ys i)
  where
    by : In x xs ⊎ In x ys → ((x ≡ y) ⊎ In x xs) ⊎ In x ys
    by (inl i) = inl (inr i)
    by (inr i) = inr i

pub Pairwise-append : {X : Type 0} (R : X → X → Type 0) (xs ys : List X) → Pairwise R xs → Pairwise R ys → ((x y : X) → In x xs → In y ys → R x y) → Pairwise R (xs ++ ys)
Pairwise-append R [] ys h k c = k
Pairwise-append R (x ∷ xs) ys h k c = (Each-append (R x) xs ys h.0 (Each-from (R x) ys (λ y i. c x y (inl refl) i)), Pairwise-append R xs ys h.1 k (λ u v i j. c u v (inr i) j))

-- ---- one element among the others

pub record Place {X : Type 0} (x : X) (xs : List X) : Type 0 where
  pub front : List X
  pub back : List X
  pub is : xs ≡ front ++ x ∷ back

pub place : {X : Type 0} (x : X) (xs : List X) → In x xs → Place x xs
place x [] i = absurd i
place x (y ∷ ys) (inl e) = record { front = []; back = ys; is = ap (λ z. z ∷ ys) (sym e) }
place x (y ∷ ys) (inr i) = let p = place x ys i in record { front = y ∷ p.front; back = p.back; is = ap (λ zs. y ∷ zs) p.is }

pub Pairwise-front : {X : Type 0} (R : X → X → Type 0) (x : X) (front back : List X) → Pairwise R (front ++ x ∷ back) → Each (λ y. R y x) front
Pairwise-front R x [] back h = tt
Pairwise-front R x (y ∷ front) back h = ((Each-right (R y) front (x ∷ back) h.0).0, Pairwise-front R x front back h.1)

pub Pairwise-back : {X : Type 0} (R : X → X → Type 0) (x : X) (front back : List X) → Pairwise R (front ++ x ∷ back) → Each (R x) back
Pairwise-back R x [] back h = h.0
Pairwise-back R x (y ∷ front) back h = Pairwise-back R x front back h.1

pub Pairwise-without : {X : Type 0} (R : X → X → Type 0) (x : X) (front back : List X) → Pairwise R (front ++ x ∷ back) → Pairwise R (front ++ back)
Pairwise-without R x [] back h = h.1
Pairwise-without R x (y ∷ front) back h = (Each-append (R y) front back (Each-left (R y) front (x ∷ back) h.0) (Each-right (R y) front (x ∷ back) h.0).1, Pairwise-without R x front back h.1)

pub In-without : {X : Type 0} (x y : X) (front back : List X) → In y (front ++ back) → In y (front ++ x ∷ back)
In-without x y front back i = by (In-append y front back i)
  where
    by : In y front ⊎ In y back → In y (front ++ x ∷ back)
    by (inl i) = In-left y front (x ∷ back) i
    by (inr i) = In-right y front (x ∷ back) (inr i)

pub In-with : {X : Type 0} (x y : X) (front back : List X) → In y (front ++ x ∷ back) → (y ≡ x) ⊎ In y (front ++ back)
In-with x y front back i = by (In-append y front (x ∷ back) i)
  where
    by : In y front ⊎ In y (x ∷ back) → (y ≡ x) ⊎ In y (front ++ back)
    by (inl i) = inr (In-left y front back i)
    by (inr (inl e)) = inl e
    by (inr (inr i)) = inr (In-right y front back i)

-- where none stands twice, x doesn't stand in the rest
pub Distinct-rest : {X : Type 0} (x : X) (front back : List X) → Distinct (front ++ x ∷ back) → ¬ (In x (front ++ back))
Distinct-rest x front back d i = by (In-append x front back i)
  where
    by : In x front ⊎ In x back → ⊥
    by (inl i) = Each-In (λ y. ¬ (y ≡ x)) front (Pairwise-front (λ y z. ¬ (y ≡ z)) x front back d) x i refl
    by (inr i) = Each-In (λ y. ¬ (x ≡ y)) back (Pairwise-back (λ y z. ¬ (y ≡ z)) x front back d) x i refl
