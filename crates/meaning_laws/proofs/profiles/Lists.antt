-- Members of lists, what holds of each, and what holds of a name's declaration.
use Rattle.std.proofs.Common.{◌≡◌, ◌⊎◌, inl, inr, ℕ, ◌<◌, Bool, true, false, ◌&&◌, Option, Some, None, List}
use Rattle.std.proofs.Common.{[], ◌∷◌, map, get_or, zero, suc, refl, sym, subst, arith, Contains}
use Rattle.std.specs.List.{AllByRecursion, list_all}
use Rattle.std.specs.Option.{IsSomeAnd}
use Rattle.std.proofs.lemmas.List.Elements.{Contains-append_right, Contains-append_cases, Contains-get_or}

-- ---- members

pub here : {A : Type 0} → (x : A) (xs : List A) → Contains (x ∷ xs) x
here x xs = Contains-get_or (x ∷ xs) 0 x (omega arith)

pub there : {A : Type 0} → (y : A) (xs : List A) (x : A) → Contains xs x → Contains (y ∷ xs) x
there y xs x h = Contains-append_right (y ∷ []) xs x h

pub nowhere : {A : Type 0} → (x : A) → Contains [] x → ⊥
nowhere x h = let lt : h.0 < 0 = h.1 in omega arith

pub cases_of : {A : Type 0} → (y : A) (ys : List A) (x : A) → Contains (y ∷ ys) x → (y ≡ x) ⊎ Contains ys x
cases_of y ys x h = by (Contains-append_cases (y ∷ []) ys x h)
  where
    at : (k : ℕ) → k < 1 → get_or (y ∷ []) k x ≡ x → y ≡ x
    at zero lt e = e
    at (suc k) lt e = absurd (omega arith)

    by : Contains (y ∷ []) x ⊎ Contains ys x → (y ≡ x) ⊎ Contains ys x
    by (inl g) = inl (at g.0 g.1 g.2)
    by (inr g) = inr g

-- ---- each

pub all_weaker : {A : Type 0} → (P Q : A → Type 0) → ((x : A) → P x → Q x) → (xs : List A) → AllByRecursion P xs → AllByRecursion Q xs
all_weaker P Q f [] h = tt
all_weaker P Q f (x ∷ xs) h = (f x h.0, all_weaker P Q f xs h.1)

pub all_at : {A : Type 0} → (P : A → Type 0) (xs : List A) (x : A) → AllByRecursion P xs → Contains xs x → P x
all_at P [] x h g = absurd (nowhere x g)
all_at P (y ∷ ys) x h g = by (all_at P ys x h.1) (cases_of y ys x g)
  where
    by : (Contains ys x → P x) → (y ≡ x) ⊎ Contains ys x → P x
    by more (inl e) = subst P e h.0
    by more (inr c) = more c

pub all_of_map : {A B : Type 0} → (f : A → B) (P : B → Type 0) (xs : List A) → AllByRecursion P (map f xs) → AllByRecursion (λ x. P (f x)) xs
all_of_map f P [] h = tt
all_of_map f P (x ∷ xs) h = (h.0, all_of_map f P xs h.1)

both : (a b : Bool) → (a && b) ≡ true → (a ≡ true) × (b ≡ true)
both true true h = (refl, refl)
both true false h = absurd cc
both false b h = absurd cc

both_true : (a b : Bool) → a ≡ true → b ≡ true → (a && b) ≡ true
both_true true b h g = g
both_true false b h g = absurd cc

pub all_pass : {A : Type 0} → (f g : A → Bool) → ((x : A) → f x ≡ true → g x ≡ true) → (xs : List A) → list_all f xs ≡ true → list_all g xs ≡ true
all_pass f g h [] e = refl
all_pass f g h (x ∷ xs) e = both_true (g x) (list_all g xs) (h x (both (f x) (list_all f xs) e).0) (all_pass f g h xs (both (f x) (list_all f xs) e).1)

-- ---- options

pub some_and : {A : Type 0} → (P Q : A → Type 0) (o q : Option A) → ((x : A) → o ≡ Some x → q ≡ Some x) → ((x : A) → o ≡ Some x → P x → Q x) → IsSomeAnd o P → IsSomeAnd q Q
some_and P Q None q f g h = absurd h
some_and P Q (Some x) q f g h = subst (λ r. IsSomeAnd r Q) (sym (f x refl)) (g x refl h)
