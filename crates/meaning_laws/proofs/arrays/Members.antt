-- Members of lists.
use Rattle.std.proofs.Common.{◌≡◌, subst, ◌⊎◌, inl, inr, ℕ, ◌<◌, zero, suc, List, [], ◌∷◌, map, get_or, arith, All, Contains}
use Rattle.std.proofs.lemmas.List.Elements.{Contains-append_right, Contains-append_cases, Contains-get_or, All-contains_itself, All-weaker}

pub here : {A : Type 0} → (x : A) (xs : List A) → Contains (x ∷ xs) x
here x xs = Contains-get_or (x ∷ xs) 0 x (omega arith)

pub there : {A : Type 0} → (y : A) (xs : List A) (x : A) → Contains xs x → Contains (y ∷ xs) x
there y xs x h = Contains-append_right (y ∷ []) xs x h

pub nowhere : {A : Type 0} → (x : A) → Contains [] x → ⊥
nowhere x h = let lt : h.0 < 0 = h.1 in omega arith

pub cases_of : {A : Type 0} → (y : A) (ys : List A) (x : A) → Contains (y ∷ ys) x → (y ≡ x) ⊎ Contains ys x
cases_of y ys x h = by (Contains-append_cases (y ∷ []) ys x h)
  where
    at : (k : ℕ) → k < 1 → get_or (y ∷ []) k x ≡ x → y ≡ x
    at zero lt e = e
    at (suc k) lt e = absurd (omega arith)

    by : Contains (y ∷ []) x ⊎ Contains ys x → (y ≡ x) ⊎ Contains ys x
    by (inl g) = inl (at g.0 g.1 g.2)
    by (inr g) = inr g

-- what holds of each member holds of all
pub each_member : {A : Type 0} → (P : A → Type 0) (xs : List A) → ((x : A) → Contains xs x → P x) → All P xs
each_member P xs h = All-weaker (Contains xs) P h xs (All-contains_itself xs)

-- ---- members of a mapped list

pub in_map : {A B : Type 0} → (f : A → B) (xs : List A) (x : A) → Contains xs x → Contains (map f xs) (f x)
in_map f [] x c = absurd (nowhere x c)
in_map f (y ∷ ys) x c = by (cases_of y ys x c) (in_map f ys x)
  where
    by : (y ≡ x) ⊎ Contains ys x → (Contains ys x → Contains (map f ys) (f x)) → Contains (f y ∷ map f ys) (f x)
    by (inl e) more = subst (λ z. Contains (f y ∷ map f ys) (f z)) e (here (f y) (map f ys))
    by (inr k) more = there (f y) (map f ys) (f x) (more k)

pub of_map : {A B : Type 0} → (f : A → B) (xs : List A) (z : B) → Contains (map f xs) z → (x : A) × Contains xs x × (f x ≡ z)
of_map f [] z c = absurd (nowhere z c)
of_map {A} f (y ∷ ys) z c = by (cases_of (f y) (map f ys) z c) (of_map f ys z)
  where
    by : (f y ≡ z) ⊎ Contains (map f ys) z → (Contains (map f ys) z → (x : A) × Contains ys x × (f x ≡ z)) → (x : A) × Contains (y ∷ ys) x × (f x ≡ z)
    by (inl e) more = (y, here y ys, e)
    by (inr k) more = let x = more k in (x.0, there y ys x.0 x.1, x.2)
