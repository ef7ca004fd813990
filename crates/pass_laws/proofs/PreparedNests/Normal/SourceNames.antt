-- Names that FORTRAN 77 has.
use Rattle.std.proofs.Common.{◌≡◌, ◌⊎◌, inl, inr, refl, sym, subst, ℕ, Bool, true, false, ◌&&◌, ◌||◌, List, [], ◌∷◌}
use Rattle.std.proofs.Common.{Contains}
use Rattle.std.specs.List.{list_all}
use Rattle.meaning.specs.SymbolicNames.{IsSymbolicName, is_digit, is_letter}
use Rattle.tree.specs.Names.{IsSourceName}
use Rattle.meaning_laws.proofs.profiles.Lists.{nowhere, cases_of}

no_other : (f : ℕ → Bool) (n : ℕ) (xs : List ℕ) → f n ≡ false → list_all f xs ≡ true → ¬ Contains xs n
no_other f n [] e h c = nowhere n c
no_other f n (x ∷ xs) e h c = by (f x) (list_all f xs) (λ s. subst (λ (y : ℕ). f y ≡ false) (sym s) e) h (no_other f n xs e) (cases_of x xs n c)
  where
    by : (a b : Bool) → (x ≡ n → a ≡ false) → (a && b) ≡ true → (b ≡ true → ¬ Contains xs n) → (x ≡ n) ⊎ Contains xs n → ⊥
    by true b s g more (inl i) = let no = s i in cc
    by false b s g more k = let no : ⊥ = cc in absurd no
    by true b s g more (inr j) = more g j

pub source_name : (x : List ℕ) → IsSymbolicName x → IsSourceName x
source_name x h = record { within = h.within; plain = no_other (λ c. is_letter c || is_digit c) 95 x refl h.goes_on }
