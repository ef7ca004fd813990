-- Bounds within 64 bits, and what holds of all elements of a list.
use Rattle.std.proofs.Common.{arith, ◌≡◌, true, false, Option, Some, None, ◌⊎◌, inl, inr, ◌^◌, ◌<◌, ◌≤◌, ℤ, pos, negsuc}
use Rattle.std.proofs.Common.{List, [], ◌∷◌, ◌++◌, map, ap, sym, ◌∙◌, append_assoc, FitsSigned, w64}
use Rattle.std.specs.Prelude.{is_some}
use Rattle.std.specs.List.{AllByRecursion}
use Rattle.std.proofs.lemmas.Bool.{cases_lt}
use Rattle.std.proofs.lemmas.List.{map-append}
use Rattle.tree.specs.Plain.{Declaration}
use Rattle.tree.specs.declared.programs.Dim.{Dim}
use Rattle.meaning.specs.Extents.{IsDimension}
use Rattle.meaning.specs.Typed.{dimensions}
use Rattle.f90_grammar.specs.Bounds.{HasBounds}
use Rattle.f90_grammar.specs.Forms as forms
use Rattle.f90_grammar.specs.Reading.{dimension_bounds}
use Rattle.f90_names.specs.kinds.declarations.Bounds.{IsDimOf}

-- ---- what isn't false

fits_unless : (z : ℤ) → ((FitsSigned w64 z → ⊥) → ⊥) → FitsSigned w64 z
fits_unless (pos n) h = by (cases_lt n (2 ^ 63))
  where
    by : (n < 2 ^ 63) ⊎ (2 ^ 63 ≤ n) → FitsSigned w64 (pos n)
    by (inl l) = record { sfits = l }
    by (inr l) = absurd (h (λ k. let g : n < 2 ^ 63 = k.sfits in absurd (omega arith)))
fits_unless (negsuc n) h = by (cases_lt n (2 ^ 63))
  where
    by : (n < 2 ^ 63) ⊎ (2 ^ 63 ≤ n) → FitsSigned w64 (negsuc n)
    by (inl l) = record { sfits = l }
    by (inr l) = absurd (h (λ k. let g : n < 2 ^ 63 = k.sfits in absurd (omega arith)))

all_unless : {A : Type 0} (P : A → Type 0) → ((x : A) → ((P x → ⊥) → ⊥) → P x) → (xs : List A)
    → ((AllByRecursion P xs → ⊥) → ⊥) → AllByRecursion P xs
all_unless P each [] h = tt
all_unless P each (x ∷ xs) h = (each x (λ n. h (λ k. n k.0)), all_unless P each xs (λ n. h (λ k. n k.1)))

dimension_unless : (b : ℤ × ℤ) → ((IsDimension b → ⊥) → ⊥) → IsDimension b
dimension_unless b h =
    record { lower = fits_unless b.0 (λ n. h (λ k. n k.lower)); upper = fits_unless b.1 (λ n. h (λ k. n k.upper)) }

pub bounds_unless : (ds : List Declaration) → ((AllByRecursion HasBounds ds → ⊥) → ⊥) → AllByRecursion HasBounds ds
bounds_unless ds h = all_unless HasBounds (λ d k. all_unless IsDimension dimension_unless (dimensions d.extent) k) ds h

-- ---- all of a list

pub all_append : {A : Type 0} (P : A → Type 0) (xs ys : List A) → AllByRecursion P xs → AllByRecursion P ys
    → AllByRecursion P (xs ++ ys)
all_append P [] ys h k = k
all_append P (x ∷ xs) ys h k = (h.0, all_append P xs ys h.1 k)

pub all_left : {A : Type 0} (P : A → Type 0) (xs ys : List A) → AllByRecursion P (xs ++ ys) → AllByRecursion P xs
all_left P [] ys h = tt
all_left P (x ∷ xs) ys h = (h.0, all_left P xs ys h.1)

pub all_right : {A : Type 0} (P : A → Type 0) (xs ys : List A) → AllByRecursion P (xs ++ ys) → AllByRecursion P ys
all_right P [] ys h = h
all_right P (x ∷ xs) ys h = all_right P xs ys h.1

-- one more of a list that is made of another
pub all_more : {A B : Type 0} (f : A → B) (P : B → Type 0) (xs : List A) (x : A) → AllByRecursion P (map f xs) → P (f x)
    → AllByRecursion P (map f (xs ++ x ∷ []))
all_more f P [] x h k = (k, tt)
all_more f P (y ∷ ys) x h k = (h.0, all_more f P ys x h.1 k)

pub all_but_last : {A B : Type 0} (f : A → B) (P : B → Type 0) (xs : List A) (x : A)
    → AllByRecursion P (map f (xs ++ x ∷ [])) → AllByRecursion P (map f xs)
all_but_last f P [] x h = tt
all_but_last f P (y ∷ ys) x h = (h.0, all_but_last f P ys x h.1)

pub all_at : {A B : Type 0} (f : A → B) (P : B → Type 0) (xs : List A) (x : A) (ys : List A)
    → AllByRecursion P (map f (xs ++ x ∷ ys)) → P (f x)
all_at f P [] x ys h = h.0
all_at f P (z ∷ xs) x ys h = all_at f P xs x ys h.1

-- ---- a dimension that is read

pub dim_within : (o : Option Dim) (d : forms.Dimension) → is_some o ≡ true → IsDimOf o d
    → IsDimension (dimension_bounds d)
dim_within None d e h = absurd (cc)
dim_within (Some dim) d e h = h.1

pub dim_beyond : (o : Option Dim) (d : forms.Dimension) → is_some o ≡ false → IsDimOf o d
    → IsDimension (dimension_bounds d) → ⊥
dim_beyond None d e h k = h k
dim_beyond (Some dim) d e h k = absurd (cc)

pub made_more : {A B C : Type 0} (g : A → C) (f : B → C) (xs : List A) (x : A) (before : List C) (ys : List B) (y : B)
    → map g xs ≡ before ++ map f ys → g x ≡ f y
    → map g (xs ++ x ∷ []) ≡ before ++ map f (ys ++ y ∷ [])
made_more g f xs x before ys y e h =
    map-append g xs (x ∷ []) ∙ ap (λ zs. zs ++ g x ∷ []) e ∙ ap (λ z. (before ++ map f ys) ++ z ∷ []) h
    ∙ append_assoc before (map f ys) (f y ∷ [])
    ∙ ap (λ zs. before ++ zs) (sym (map-append f ys (y ∷ [])))
