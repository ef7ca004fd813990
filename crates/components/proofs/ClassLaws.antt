-- Lemmas on lists of classes.
use Rattle.std.proofs.Common.{◌≡◌, refl, sym, subst, ◌⊎◌, inl, inr, ℕ, ◌<◌, List, [], ◌∷◌, ◌++◌, arith}
use Rattle.std.specs.List.{concat}
use Rattle.components.specs.Lists.{IsMember, Pairwise, Rises}
use Rattle.components.proofs.ListLaws.{Each-In, In-left, In-right, In-append}

pub In-concat : (x : ℕ) (c : List ℕ) (cs : List (List ℕ)) → IsMember c cs → IsMember x c → IsMember x (concat cs)
In-concat x c [] i j = absurd i
In-concat x c (d ∷ cs) (inl e) j = In-left x d (concat cs) (subst (IsMember x) e j)
In-concat x c (d ∷ cs) (inr i) j = In-right x d (concat cs) (In-concat x c cs i j)

pub concat-In : (x : ℕ) (cs : List (List ℕ)) → IsMember x (concat cs) → (c : List ℕ) × IsMember c cs × IsMember x c
concat-In x [] i = absurd i
concat-In x (c ∷ cs) i = by (concat-In x cs) (In-append x c (concat cs) i)
  where
    by : (IsMember x (concat cs) → (d : List ℕ) × IsMember d cs × IsMember x d) → IsMember x c ⊎ IsMember x (concat cs) → (d : List ℕ) × IsMember d (c ∷ cs) × IsMember x d
    by later (inl j) = (c, inl refl, j)
    by later (inr j) = let k = later j in (k.0, inr k.1, k.2)

pub some_member : (xs : List ℕ) → ¬ (xs ≡ []) → (x : ℕ) × IsMember x xs
some_member [] h = absurd (h refl)
some_member (x ∷ xs) h = (x, inl refl)

pub Pairwise-right : {X : Type 0} (R : X → X → Type 0) (xs ys : List X) → Pairwise R (xs ++ ys) → Pairwise R ys
Pairwise-right R [] ys h = h
Pairwise-right R (x ∷ xs) ys h = Pairwise-right R xs ys h.1

pub Pairwise-across : {X : Type 0} (R : X → X → Type 0) (xs ys : List X) → Pairwise R (xs ++ ys) → (x y : X) → IsMember x xs → IsMember y ys → R x y
Pairwise-across R [] ys h x y i j = absurd i
Pairwise-across R (z ∷ xs) ys h x y (inl e) j = subst (λ w. R w y) (sym e) (Each-In (R z) (xs ++ ys) h.0 y (In-right y xs ys j))
Pairwise-across R (z ∷ xs) ys h x y (inr i) j = Pairwise-across R xs ys h.1 x y i j

-- rising lists with the same members are the same
pub Rises-same : (xs ys : List ℕ) → Rises xs → Rises ys → ((a : ℕ) → IsMember a xs → IsMember a ys) → ((a : ℕ) → IsMember a ys → IsMember a xs) → xs ≡ ys
Rises-same [] [] r s to from = refl
Rises-same [] (y ∷ ys) r s to from = absurd (from y (inl refl))
Rises-same (x ∷ xs) [] r s to from = absurd (to x (inl refl))
Rises-same (x ∷ xs) (y ∷ ys) r s to from =
    let e : x ≡ y = first (to x (inl refl)) (from y (inl refl)) in
    let t : xs ≡ ys = Rises-same xs ys r.1 s.1 (λ a i. later e a i (to a (inr i))) (λ a i. sooner e a i (from a (inr i))) in
    cc
  where
    first : (x ≡ y) ⊎ IsMember x ys → (y ≡ x) ⊎ IsMember y xs → x ≡ y
    first (inl e) k = e
    first (inr i) (inl e) = sym e
    first (inr i) (inr j) =
        let h : y < x = Each-In (λ z. y < z) ys s.0 x i in
        let k : x < y = Each-In (λ z. x < z) xs r.0 y j in
        absurd (omega arith)

    later : x ≡ y → (a : ℕ) → IsMember a xs → (a ≡ y) ⊎ IsMember a ys → IsMember a ys
    later e a i (inl f) = let h : x < a = Each-In (λ z. x < z) xs r.0 a i in absurd (omega arith)
    later e a i (inr j) = j

    sooner : x ≡ y → (a : ℕ) → IsMember a ys → (a ≡ x) ⊎ IsMember a xs → IsMember a xs
    sooner e a i (inl f) = let h : y < a = Each-In (λ z. y < z) ys s.0 a i in absurd (omega arith)
    sooner e a i (inr j) = j
