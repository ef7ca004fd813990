-- Lists: what holds of each element, and names that aren't among others.
use Rattle.std.proofs.Common.{◌≡◌, refl, ap, ◌∙◌, ℕ, Bool, true, false, ◌||◌, List, [], ◌∷◌, ◌++◌, map}
use Rattle.std.specs.Prelude.{All}
use Rattle.std.specs.Str.{bytes_eq}
use Rattle.std.proofs.lemmas.List.Elements.{All-head, All-tail}
use Rattle.std.proofs.lemmas.Slice.Eq.{bytes_eq-Decides}
use Rattle.components.specs.Lists.{Each}
use Rattle.pass_laws.specs.found_sources.Alone.{HaveLoopsAlone}
use Rattle.nest.specs.Plain.{Part, parts}
use Rattle.nest.specs.statement_loops.Names.{is_among}

-- ---- each

pub Each-left : {A : Type 0} (P : A → Type 0) (xs ys : List A) → Each P (xs ++ ys) → Each P xs
Each-left P [] ys h = tt
Each-left P (x ∷ xs) ys h = (h.0, Each-left P xs ys h.1)

pub Each-right : {A : Type 0} (P : A → Type 0) (xs ys : List A) → Each P (xs ++ ys) → Each P ys
Each-right P [] ys h = h
Each-right P (x ∷ xs) ys h = Each-right P xs ys h.1

pub Each-map : {A B : Type 0} (P : B → Type 0) (f : A → B) (xs : List A) → Each (λ x. P (f x)) xs → Each P (map f xs)
Each-map P f [] h = tt
Each-map P f (x ∷ xs) h = (h.0, Each-map P f xs h.1)

pub Each-of_all : {A : Type 0} (P : A → Type 0) (xs : List A) → All P xs → Each P xs
Each-of_all P [] h = tt
Each-of_all P (x ∷ xs) h = (All-head P x xs h, Each-of_all P xs (All-tail P x xs h))

-- ---- names

pub clash : (b : Bool) → b ≡ true → b ≡ false → ⊥
clash true h k = cc
clash false h k = cc

pub differ : (x y : List ℕ) → ¬ (x ≡ y) → bytes_eq x y ≡ false
differ x y h = by (bytes_eq x y) refl
  where
    by : (b : Bool) → bytes_eq x y ≡ b → b ≡ false
    by true e = absurd (h ((bytes_eq-Decides x y).0 e))
    by false e = refl

-- a name that is none of these
pub outside : (P : List ℕ → Type 0) (ys : List (List ℕ)) (x : List ℕ) → ((y : List ℕ) → P y → ¬ (y ≡ x)) → Each P ys
    → is_among ys x ≡ false
outside P [] x f h = refl
outside P (y ∷ ys) x f h = ap (λ b. b || is_among ys x) (differ y x (f y h.0)) ∙ outside P ys x f h.1

-- ---- parts

pub alone_left : (ps qs : List Part) → HaveLoopsAlone (parts (ps ++ qs)) → HaveLoopsAlone (parts ps)
alone_left [] qs h = tt
alone_left (p ∷ ps) qs h = (h.0, alone_left ps qs h.1)

pub alone_right : (ps qs : List Part) → HaveLoopsAlone (parts (ps ++ qs)) → HaveLoopsAlone (parts qs)
alone_right [] qs h = h
alone_right (p ∷ ps) qs h = alone_right ps qs h.1
