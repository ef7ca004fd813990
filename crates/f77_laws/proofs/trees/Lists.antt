-- Members of lists, and what holds of each.
use Rattle.std.proofs.Common.{◌≡◌, ◌⊎◌, inl, inr, ℕ, ◌<◌, Bool, true, false, not, ◌&&◌, ◌||◌, cond, List, [], ◌∷◌, ◌++◌, map, length, get_or, zero, suc, refl, sym, ap, subst, ◌∙◌, arith, Contains, filter, flat_map}
use Rattle.std.specs.List.{AllByRecursion, list_any, list_all}
use Rattle.std.proofs.lemmas.List.Elements.{Contains-append_left, Contains-append_right, Contains-append_cases, Contains-get_or}

-- ---- both, either

pub left_true : (a b : Bool) → (a && b) ≡ true → a ≡ true
left_true true b h = refl
left_true false b h = h

pub right_true : (a b : Bool) → (a && b) ≡ true → b ≡ true
right_true true b h = h
right_true false b h = absurd cc

pub left_false : (a b : Bool) → (a || b) ≡ false → a ≡ false
left_false true b h = h
left_false false b h = refl

pub right_false : (a b : Bool) → (a || b) ≡ false → b ≡ false
right_false true b h = absurd cc
right_false false b h = h

pub or_right : (a b : Bool) → b ≡ true → (a || b) ≡ true
or_right true b h = refl
or_right false b h = h

pub both_false : (a b : Bool) → a ≡ false → b ≡ false → (a || b) ≡ false
both_false true b h g = absurd cc
both_false false b h g = g

pub not_both : (b : Bool) → b ≡ true → b ≡ false → ⊥
not_both b h g = cc

pub negated : (b : Bool) → not b ≡ true → b ≡ false
negated true h = absurd cc
negated false h = refl

pub affirmed : (b : Bool) → not b ≡ false → b ≡ true
affirmed true h = refl
affirmed false h = absurd cc

-- ---- members

pub here : {A : Type 0} → (x : A) (xs : List A) → Contains (x ∷ xs) x
here x xs = Contains-get_or (x ∷ xs) 0 x (omega arith)

pub there : {A : Type 0} → (y : A) (xs : List A) (x : A) → Contains xs x → Contains (y ∷ xs) x
there y xs x h = Contains-append_right (y ∷ []) xs x h

pub nowhere : {A : Type 0} → (x : A) → Contains [] x → ⊥
nowhere x h = let lt : h.0 < 0 = h.1 in omega arith

pub cases_of : {A : Type 0} → (y : A) (ys : List A) (x : A) → Contains (y ∷ ys) x → (y ≡ x) ⊎ Contains ys x
cases_of y ys x h = by (Contains-append_cases (y ∷ []) ys x h)
  where
    at : (k : ℕ) → k < 1 → get_or (y ∷ []) k x ≡ x → y ≡ x
    at zero lt e = e
    at (suc k) lt e = absurd (omega arith)

    by : Contains (y ∷ []) x ⊎ Contains ys x → (y ≡ x) ⊎ Contains ys x
    by (inl g) = inl (at g.0 g.1 g.2)
    by (inr g) = inr g

-- ---- all

pub all_left : {A : Type 0} → (P : A → Type 0) (xs ys : List A) → AllByRecursion P (xs ++ ys) → AllByRecursion P xs
all_left P [] ys h = tt
all_left P (x ∷ xs) ys h = (h.0, all_left P xs ys h.1)

pub all_right : {A : Type 0} → (P : A → Type 0) (xs ys : List A) → AllByRecursion P (xs ++ ys) → AllByRecursion P ys
all_right P [] ys h = h
all_right P (x ∷ xs) ys h = all_right P xs ys h.1

pub all_both : {A : Type 0} → (P : A → Type 0) (xs ys : List A) → AllByRecursion P xs → AllByRecursion P ys → AllByRecursion P (xs ++ ys)
all_both P [] ys h g = g
all_both P (x ∷ xs) ys h g = (h.0, all_both P xs ys h.1 g)

pub all_weaker : {A : Type 0} → (P Q : A → Type 0) → ((x : A) → P x → Q x) → (xs : List A) → AllByRecursion P xs → AllByRecursion Q xs
all_weaker P Q f [] h = tt
all_weaker P Q f (x ∷ xs) h = (f x h.0, all_weaker P Q f xs h.1)

-- of each member
pub all_at : {A : Type 0} → (P : A → Type 0) (xs : List A) (x : A) → AllByRecursion P xs → Contains xs x → P x
all_at P [] x h g = absurd (nowhere x g)
all_at P (y ∷ ys) x h g = by (all_at P ys x h.1) (cases_of y ys x g)
  where
    by : (Contains ys x → P x) → (y ≡ x) ⊎ Contains ys x → P x
    by more (inl e) = subst P e h.0
    by more (inr c) = more c

pub all_of : {A : Type 0} → (P : A → Type 0) (xs : List A) → ((x : A) → Contains xs x → P x) → AllByRecursion P xs
all_of P [] f = tt
all_of P (x ∷ xs) f = (f x (here x xs), all_of P xs (λ y h. f y (there x xs y h)))

pub none_any : {A : Type 0} → (test : A → Bool) (xs : List A) → list_any test xs ≡ false → AllByRecursion (λ x. test x ≡ false) xs
none_any test [] h = tt
none_any test (x ∷ xs) h = (left_false (test x) (list_any test xs) h, none_any test xs (right_false (test x) (list_any test xs) h))

pub all_true : {A : Type 0} → (test : A → Bool) (xs : List A) → list_all test xs ≡ true → AllByRecursion (λ x. test x ≡ true) xs
all_true test [] h = tt
all_true test (x ∷ xs) h = (left_true (test x) (list_all test xs) h, all_true test xs (right_true (test x) (list_all test xs) h))

pub any_true : {A : Type 0} → (test : A → Bool) (xs : List A) (x : A) → Contains xs x → test x ≡ true → list_any test xs ≡ true
any_true test [] x h e = absurd (nowhere x h)
any_true test (y ∷ ys) x h e = by (λ c. any_true test ys x c e) (cases_of y ys x h)
  where
    or_true : (a : Bool) → (a || true) ≡ true
    or_true true = refl
    or_true false = refl

    by : (Contains ys x → list_any test ys ≡ true) → (y ≡ x) ⊎ Contains ys x → (test y || list_any test ys) ≡ true
    by more (inl f) = ap (λ b. b || list_any test ys) (ap test f ∙ e)
    by more (inr c) = ap (λ b. test y || b) (more c) ∙ or_true (test y)

-- one for which the test holds
pub record Found {A : Type 0} (test : A → Bool) (xs : List A) : Type 0 where
  pub it : A
  pub among : Contains xs it
  pub passes : test it ≡ true

pub found : {A : Type 0} → (test : A → Bool) (xs : List A) → list_any test xs ≡ true → Found test xs
found test [] h = absurd cc
found test (x ∷ xs) h = by (found test xs) (test x) refl
  where
    by : (list_any test xs ≡ true → Found test xs) → (b : Bool) → test x ≡ b → Found test (x ∷ xs)
    by more true e = record { it = x; among = here x xs; passes = e }
    by more false e = let f = more (sym (ap (λ b. b || list_any test xs) e) ∙ h) in record { it = f.it; among = there x xs f.it f.among; passes = f.passes }

pub in_flat : {A B : Type 0} → (f : A → List B) (xs : List A) (x : A) (y : B) → Contains xs x → Contains (f x) y → Contains (flat_map f xs) y
in_flat f [] x y h g = absurd (nowhere x h)
in_flat {B = B} f (z ∷ zs) x y h g = by (λ c. in_flat f zs x y c g) (cases_of z zs x h)
  where
    by : (Contains zs x → Contains (flat_map f zs) y) → (z ≡ x) ⊎ Contains zs x → Contains (f z ++ flat_map f zs) y
    by more (inl e) = Contains-append_left (f z) (flat_map f zs) y (let P : List B → Type 0 = λ ys. Contains ys y in subst P (ap f (sym e)) g)
    by more (inr c) = Contains-append_right (f z) (flat_map f zs) y (more c)

pub record FromFlat {A B : Type 0} (f : A → List B) (xs : List A) (y : B) : Type 0 where
  pub it : A
  pub among : Contains xs it
  pub gives : Contains (f it) y

pub from_flat : {A B : Type 0} → (f : A → List B) (xs : List A) (y : B) → Contains (flat_map f xs) y → FromFlat f xs y
from_flat f [] y h = absurd (nowhere y h)
from_flat f (x ∷ xs) y h = by (from_flat f xs y) (Contains-append_cases (f x) (flat_map f xs) y h)
  where
    by : (Contains (flat_map f xs) y → FromFlat f xs y) → Contains (f x) y ⊎ Contains (flat_map f xs) y → FromFlat f (x ∷ xs) y
    by more (inl g) = record { it = x; among = here x xs; gives = g }
    by more (inr g) = let k = more g in record { it = k.it; among = there x xs k.it k.among; gives = k.gives }

-- what a filter leaves none of, passes nowhere
pub none_left : {A B : Type 0} → (f : A → B) (test : A → Bool) (xs : List A) → map f (filter test xs) ≡ [] → AllByRecursion (λ x. test x ≡ false) xs
none_left f test [] h = tt
none_left f test (x ∷ xs) h = by (none_left f test xs) (test x) refl
  where
    by : (map f (filter test xs) ≡ [] → AllByRecursion (λ y. test y ≡ false) xs) → (b : Bool) → test x ≡ b → (test x ≡ false) × AllByRecursion (λ y. test y ≡ false) xs
    by more true e = absurd (let g = ap length (sym (ap (λ b. map f (cond b (x ∷ filter test xs) (filter test xs))) e) ∙ h) in omega arith)
    by more false e = (e, more (sym (ap (λ b. map f (cond b (x ∷ filter test xs) (filter test xs))) e) ∙ h))
