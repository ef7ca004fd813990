-- The places of a text.
use Rattle.std.proofs.Common.{◌≡◌, ◌⊎◌, inl, inr, List, [], ◌∷◌, refl, subst, Contains}
use Rattle.std.specs.List.{AllByRecursion}
use Rattle.f77_grammar.specs.Statement77.{Labelled}
use Rattle.f77_grammar.specs.program.Text.{Place77, places_from}
use Rattle.f77_laws.proofs.Lists.{here, there, nowhere, cases_of}

-- the statements of a text, the nearest first, before others
abbrev pub onto : List Labelled → List Labelled → List Labelled
onto before [] = before
onto before (x ∷ xs) = onto (x ∷ before) xs

pub before_onto : (before text : List Labelled) (x : Labelled) → Contains before x → Contains (onto before text) x
before_onto before [] x h = h
before_onto before (y ∷ ys) x h = before_onto (y ∷ before) ys x (there y before x h)

pub text_onto : (before text : List Labelled) (x : Labelled) → Contains text x → Contains (onto before text) x
text_onto before [] x h = absurd (nowhere x h)
text_onto before (y ∷ ys) x h = by (text_onto (y ∷ before) ys x) (cases_of y ys x h)
  where
    by : (Contains ys x → Contains (onto (y ∷ before) ys) x) → (y ≡ x) ⊎ Contains ys x → Contains (onto (y ∷ before) ys) x
    by more (inl e) = before_onto (y ∷ before) ys x (subst (λ (z : Labelled). Contains (y ∷ before) z) e (here y before))
    by more (inr c) = more c

-- a place with what holds at it, behind which there is nothing
pub record LastPlace (P : Place77 → Type 0) (all : List Labelled) : Type 0 where
  pub place : Place77
  pub holds : P place
  pub whole : place.here ∷ place.before ≡ all

pub last_place : (P : Place77 → Type 0) (before : List Labelled) (x : Labelled) (xs : List Labelled) → AllByRecursion P (places_from before (x ∷ xs)) → LastPlace P (onto before (x ∷ xs))
last_place P before x [] h = record { place = record { before = before; here = x; after = [] }; holds = h.0; whole = refl }
last_place P before x (y ∷ ys) h = last_place P (x ∷ before) y ys h.1

-- a place at which a statement stands
pub record PlaceOf (P : Place77 → Type 0) (x : Labelled) : Type 0 where
  pub place : Place77
  pub holds : P place
  pub stands : place.here ≡ x

pub place_of : (P : Place77 → Type 0) (before text : List Labelled) (x : Labelled) → AllByRecursion P (places_from before text) → Contains text x → PlaceOf P x
place_of P before [] x h c = absurd (nowhere x c)
place_of P before (y ∷ ys) x h c = by (place_of P (y ∷ before) ys x h.1) (cases_of y ys x c)
  where
    by : (Contains ys x → PlaceOf P x) → (y ≡ x) ⊎ Contains ys x → PlaceOf P x
    by more (inl e) = record { place = record { before = before; here = y; after = ys }; holds = h.0; stands = e }
    by more (inr g) = more g
