-- Classes that are still to come.
use Rattle.std.specs.Prelude.{◌≡◌, ◌↔◌, ◌⊎◌, ◌<◌, ◌+◌, ◌-◌, ℕ, Bool, true, false, Option, Some, None}
use Rattle.std.specs.Prelude.{List, length, slice_set}
use Rattle.std.specs.BTreeSet.{contains}
use Rattle.std.specs.Ordering.{nat_cmp}
use Rattle.components.specs.declared.ready.Ready.{Ready}
use Rattle.components.specs.declared.rest.Rest.{Rest}
use Rattle.components.specs.declared.tables.Tables.{Tables}
use Rattle.components.specs.Classes.{AreMembers, IsClass, IsDoneOrLedTo, IsNext, flag}
use Rattle.components.specs.Counts.{tally, times}
use Rattle.components.specs.Labels.{at}
use Rattle.components.specs.Lists.{IsMember}
use Rattle.components.specs.Targets.{row}

-- the set has the number
abbrev pub has : Ready → ℕ → Bool
has ready v = contains nat_cmp ready.numbers v

-- the first number of a class
abbrev pub first : Tables → ℕ → ℕ
first t c = at (row t.members.items c) 0

-- tables of so many classes, each of which has a member
pub record AreFilled (count : ℕ) (t : Tables) : Type 0 where
  pub size : length t.members.items ≡ count
  pub each : (c : ℕ) → c < count → 0 < length (row t.members.items c)

-- the first number of a class below the bound to which nothing leads
abbrev pub IsFreeFirst : Tables → List ℕ → ℕ → ℕ → Type 0
IsFreeFirst t counts bound v = (c : ℕ) × (c < bound) × (at counts c ≡ 0) × (v ≡ first t c)

-- the first number of the class, if nothing leads to it
abbrev pub IsAdded : Tables → Rest → ℕ → ℕ → Type 0
IsAdded t r c v = (at r.counts.items c ≡ 0) × (v ≡ first t c)

-- that number comes to those that are ready
pub record AddsFree (t : Tables) (c : ℕ) (old new : Rest) : Type 0 where
  pub counts : new.counts.items ≡ old.counts.items
  pub ready : (v : ℕ) → (has new.ready v ≡ true) ↔ ((has old.ready v ≡ true) ⊎ IsAdded t new c v)

-- one pair fewer leads to the class
pub record Lowers (t : Tables) (c : ℕ) (old new : Rest) : Type 0 where
  pub counts : new.counts.items ≡ slice_set old.counts.items c (at old.counts.items c - 1)
  pub ready : (v : ℕ) → (has new.ready v ≡ true) ↔ ((has old.ready v ≡ true) ⊎ IsAdded t new c v)

-- one pair fewer leads to each of these classes
pub record Releases (t : Tables) (targets : List ℕ) (old new : Rest) : Type 0 where
  pub size : length new.counts.items ≡ length old.counts.items
  pub counts : (c : ℕ) → at new.counts.items c + times c targets ≡ at old.counts.items c
  pub ready :
      (v : ℕ)
      → (has new.ready v ≡ true) ↔ ((has old.ready v ≡ true) ⊎ ((c : ℕ) × IsMember c targets × IsAdded t new c v))

-- the tables of the classes of the numbers below n
pub record AreTables (n count : ℕ) (labels : List ℕ) (t : Tables) : Type 0 where
  pub size : length labels ≡ n
  pub below : (a : ℕ) → a < n → at labels a < count
  pub members : AreMembers n count labels t.members.items
  pub filled : AreFilled count t
  pub onward : length t.onward.items ≡ count

-- where some classes are done: how often the others lead to each, which is nought for those that are done; and the
-- first numbers of the others to which none leads
pub record IsRest (n count : ℕ) (labels : List ℕ) (t : Tables) (done : List Bool) (r : Rest) : Type 0 where
  pub tables : AreTables n count labels t
  pub size : length done ≡ count
  pub width : length r.counts.items ≡ count
  pub counts : (c : ℕ) → at r.counts.items c ≡ tally done c t.onward.items
  pub closed : (c : ℕ) → flag done c ≡ true → at r.counts.items c ≡ 0
  pub ready :
      (v : ℕ)
      → (has r.ready v ≡ true)
      ↔ ((c : ℕ) × (c < count) × (flag done c ≡ false) × (at r.counts.items c ≡ 0) × (v ≡ first t c))

abbrev pub IsSomeRest : List ℕ → Tables → Rest → Type 0
IsSomeRest labels t r = (n : ℕ) × (count : ℕ) × (done : List Bool) × IsRest n count labels t done r

-- a class that comes, or none where each is done or led to
abbrev pub ComesNext : ℕ → ℕ → List ℕ → Tables → List Bool → Rest → Option (List ℕ) → Type 0
ComesNext n count labels t done new None = (u : ℕ) → u < n → IsDoneOrLedTo t.onward.items done (at labels u)
ComesNext n count labels t done new (Some class) =
    (c : ℕ)
    × IsNext n count labels t.onward.items done c
    × IsClass n labels c class
    × IsRest n count labels t (slice_set done c true) new

abbrev pub Nexts : List ℕ → Tables → Rest → Rest → Option (List ℕ) → Type 0
Nexts labels t old new next =
    (n count : ℕ) (done : List Bool) → IsRest n count labels t done old → ComesNext n count labels t done new next
