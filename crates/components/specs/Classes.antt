-- Classes by their numbers, and pairs that lead from one to another.
use Rattle.std.specs.Prelude.{◌≡◌, ◌↔◌, ◌⊎◌, ◌<◌, ℕ, Bool, true, false, List, [], ◌∷◌, ◌++◌, length, slice_index_or}
use Rattle.components.specs.Labels.{at}
use Rattle.components.specs.Lists.{IsMember, Rises}
use Rattle.components.specs.Targets.{row}

abbrev pub flag : List Bool → ℕ → Bool
flag flags c = slice_index_or flags c false

-- the numbers below n of one class
pub record IsClass (n : ℕ) (labels : List ℕ) (c : ℕ) (class : List ℕ) : Type 0 where
  pub rising : Rises class
  pub each : (a : ℕ) → IsMember a class ↔ ((a < n) × (at labels a ≡ c))

-- those of all classes
pub record AreMembers (n count : ℕ) (labels : List ℕ) (members : List (List ℕ)) : Type 0 where
  pub size : length members ≡ count
  pub each : (c : ℕ) → IsClass n labels c (row members c)

-- some pair leads from a member of class e to one of class c, which is another
abbrev pub IsPairBetween : List (ℕ × ℕ) → List ℕ → ℕ → ℕ → Type 0
IsPairBetween pairs labels e c =
    (a : ℕ) × (b : ℕ) × IsMember (a, b) pairs × (at labels a ≡ e) × (at labels b ≡ c) × (e ≡ c → ⊥)

abbrev pub ArePairsBetween : List (ℕ × ℕ) → List ℕ → List (ℕ × ℕ) → Type 0
ArePairsBetween pairs labels between = (e c : ℕ) → IsMember (e, c) between ↔ IsPairBetween pairs labels e c

-- one more, where the two classes differ
pub record AddsBetween (e c : ℕ) (old new : List (ℕ × ℕ)) : Type 0 where
  pub same : e ≡ c → new ≡ old
  pub other : (e ≡ c → ⊥) → new ≡ old ++ (e, c) ∷ []

-- for each class the others that its members lead to
abbrev pub AreClassRows : List (ℕ × ℕ) → List ℕ → List (List ℕ) → Type 0
AreClassRows pairs labels rows = (e c : ℕ) → IsMember c (row rows e) ↔ IsPairBetween pairs labels e c

-- a class that isn't done leads to it
abbrev pub IsLedTo : List (List ℕ) → List Bool → ℕ → Type 0
IsLedTo rows done c = (e : ℕ) × IsMember c (row rows e) × (flag done e ≡ false)

abbrev pub IsDoneOrLedTo : List (List ℕ) → List Bool → ℕ → Type 0
IsDoneOrLedTo rows done c = (flag done c ≡ true) ⊎ IsLedTo rows done c

-- a class that may come next, with its first number: it is the least of those that may
pub record IsNext (n count : ℕ) (labels : List ℕ) (rows : List (List ℕ)) (done : List Bool) (c : ℕ) : Type 0 where
  pub small : c < count
  pub undone : flag done c ≡ false
  pub free : IsLedTo rows done c → ⊥
  pub least : ℕ
  pub inside : least < n
  pub of : at labels least ≡ c
  pub before : (u : ℕ) → u < least → IsDoneOrLedTo rows done (at labels u)
