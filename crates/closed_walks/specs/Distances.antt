-- How many steps a number is away from another one, as far as that has been found out.
use Rattle.std.specs.Prelude.{◌≡◌, ◌<◌, ◌≤◌, ◌+◌, ℕ, suc, Bool, true, false, Option, Some, None, List, [], ◌∷◌}
use Rattle.std.specs.Prelude.{length, slice_index_or, slice_set}
use Rattle.components.specs.Lists.{IsMember}
use Rattle.components.specs.Reachability.{Walk}

-- what is known of a number; nothing of one beyond the list
abbrev pub at : List (Option ℕ) → ℕ → Option ℕ
at steps v = slice_index_or steps v None

pub record HasWalk (pairs : List (ℕ × ℕ)) (v s d : ℕ) : Type 0 where
  pub over : List ℕ
  pub long : length over ≡ d
  pub walk : Walk pairs v over s

-- all numbers of at most k steps to s have their least number of steps, and no others have one
pub record IsDistance (pairs : List (ℕ × ℕ)) (s k : ℕ) (steps : List (Option ℕ)) : Type 0 where
  pub target : at steps s ≡ Some 0
  pub reached : (v d : ℕ) → at steps v ≡ Some d → HasWalk pairs v s d
  pub bounded : (v d : ℕ) → at steps v ≡ Some d → d ≤ k
  pub least : (v d : ℕ) (over : List ℕ) → at steps v ≡ Some d → Walk pairs v over s → d ≤ length over
  pub beyond : (v : ℕ) (over : List ℕ) → at steps v ≡ None → Walk pairs v over s → k < length over

-- a number leads to one of k steps
abbrev pub LeadsTo : List (ℕ × ℕ) → List (Option ℕ) → ℕ → ℕ → Type 0
LeadsTo pairs steps k v = (b : ℕ) × IsMember (v, b) pairs × (at steps b ≡ Some k)

-- how many are known
abbrev pub known : List (Option ℕ) → ℕ
known [] = 0
known (None ∷ os) = known os
known (Some d ∷ os) = suc (known os)

-- those that lead to one of k steps, and had none, have one more now
pub record IsSweep (pairs : List (ℕ × ℕ)) (k : ℕ) (old new : List (Option ℕ)) (any : Bool) : Type 0 where
  pub size : length new ≡ length old
  pub kept : (v d : ℕ) → at old v ≡ Some d → at new v ≡ Some d
  pub added : (v : ℕ) → at old v ≡ None → LeadsTo pairs old k v → at new v ≡ Some (k + 1)
  pub only : (v d : ℕ) → at old v ≡ None → at new v ≡ Some d → (d ≡ k + 1) × LeadsTo pairs old k v
  pub none : any ≡ false → new ≡ old
  pub grown : known old ≤ known new
  pub more : any ≡ true → known old < known new

-- q is the least that the number leads to, of those with `left` steps
pub record IsNext (pairs : List (ℕ × ℕ)) (steps : List (Option ℕ)) (from left q : ℕ) : Type 0 where
  pub leads : IsMember (from, q) pairs
  pub has : at steps q ≡ Some left
  pub least : (r : ℕ) → IsMember (from, r) pairs → at steps r ≡ Some left → q ≤ r

abbrev pub IsLeastNext : List (ℕ × ℕ) → List (Option ℕ) → ℕ → ℕ → Option ℕ → Type 0
IsLeastNext pairs steps from left None = (r : ℕ) → IsMember (from, r) pairs → at steps r ≡ Some left → ⊥
IsLeastNext pairs steps from left (Some q) = IsNext pairs steps from left q

-- each the least that the one before it leads to, of those with one step less
abbrev pub AreChosen : List (ℕ × ℕ) → List (Option ℕ) → ℕ → ℕ → List ℕ → Type 0
AreChosen pairs steps from left [] = left ≡ 0
AreChosen pairs steps from left (q ∷ over) =
    (n : ℕ) × (left ≡ n + 1) × IsNext pairs steps from n q × AreChosen pairs steps q n over

-- no closed walk has fewer than k steps
abbrev pub HasNoneBefore : List (ℕ × ℕ) → List (Option ℕ) → ℕ → ℕ → Type 0
HasNoneBefore pairs steps s k = (r d : ℕ) → IsMember (s, r) pairs → at steps r ≡ Some d → k ≤ d

-- one number has got one step more than the other, which has k, and had none; or nothing has changed
pub record IsMarked (old : List (Option ℕ)) (from to k : ℕ) (new : List (Option ℕ)) (marked : Bool) : Type 0 where
  pub yes : marked ≡ true → (at old to ≡ Some k) × (at old from ≡ None) × (new ≡ slice_set old from (Some (k + 1)))
  pub no : marked ≡ false → new ≡ old
  pub why : marked ≡ false → at old to ≡ Some k → at old from ≡ None → ⊥

-- the lesser of the two
pub record IsLesser (least : Option ℕ) (number : ℕ) (result : Option ℕ) : Type 0 where
  pub none : least ≡ None → result ≡ Some number
  pub old : (q : ℕ) → least ≡ Some q → q ≤ number → result ≡ Some q
  pub new : (q : ℕ) → least ≡ Some q → number < q → result ≡ Some number

-- the lesser of the two where the pair begins at `from` and its end has `left` steps; else the old one
pub record IsTaken (steps : List (Option ℕ)) (from left start end : ℕ) (least result : Option ℕ) : Type 0 where
  pub yes : start ≡ from → at steps end ≡ Some left → IsLesser least end result
  pub no : (start ≡ from → at steps end ≡ Some left → ⊥) → result ≡ least

-- the number leads to one of one step less, and so does each of these, down to the target
abbrev pub CanFollow : List (ℕ × ℕ) → List (Option ℕ) → ℕ → ℕ → Type 0
CanFollow pairs steps from left =
    (a n : ℕ) → n + 1 ≤ left → (n + 1 ≡ left → a ≡ from) → (n + 1 < left → at steps a ≡ Some (n + 1))
    → LeadsTo pairs steps n a
