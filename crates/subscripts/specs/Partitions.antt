-- The groups of subscript pairs: those that are coupled, also through others.
use Rattle.std.specs.Prelude.{◌≡◌, ◌⊎◌, ℕ, ◌≤◌, ◌<◌, max, min, nat_eq, cond, IsTrue}
use Rattle.std.specs.Prelude.{EachIndex, List, [], ◌∷◌, Some, slice_get, slice_index}
use Rattle.subscripts.specs.Classes.{Loop, Shared, First, Second, Matters}
use Rattle.subscripts.specs.declared.pairing.Pairing.{Pairing}

-- a loop matters to both, which are linear, and so of an SIV class or Miv
pub record SharesLoop (p q : Pairing) : Type 0 where
  pub loop : Loop
  pub first_known : IsTrue p.known
  pub second_known : IsTrue q.known
  pub first : Matters p loop
  pub second : Matters q loop

-- the pairings in two places share a loop
pub record AreCoupled (ps : List Pairing) (i j : ℕ) : Type 0 where
  pub first : Pairing
  pub second : Pairing
  pub at_first : slice_get ps i ≡ Some first
  pub at_second : slice_get ps j ≡ Some second
  pub shares : SharesLoop first second

-- from place i by these places, one after the other, to j, each coupled with the next
abbrev pub IsChain : List Pairing → ℕ → List ℕ → ℕ → Type 0
IsChain ps i [] j = i ≡ j
IsChain ps i (k ∷ ks) j = AreCoupled ps i k × IsChain ps k ks j

-- in one group
abbrev pub AreGrouped : List Pairing → ℕ → ℕ → Type 0
AreGrouped ps i j = (ks : List ℕ) × IsChain ps i ks j

-- the least place of the group of the pairing at i; i itself where that is past the last pairing
pub record IsLeastOfGroup (ps : List Pairing) (i least : ℕ) : Type 0 where
  pub grouped : AreGrouped ps i least
  pub first : (j : ℕ) → AreGrouped ps i j → least ≤ j

abbrev pub IsPartition : List Pairing → List ℕ → Type 0
IsPartition ps of' = (i : ℕ) → i < 7 → IsLeastOfGroup ps i (slice_index of' i)

-- a loop at this place matters to both
abbrev pub SharesAt : Pairing → Pairing → ℕ → Type 0
SharesAt p q k =
    (Matters p (Shared k) × Matters q (Shared k))
    ⊎ ((Matters p (First k) × Matters q (First k)) ⊎ (Matters p (Second k) × Matters q (Second k)))

-- the number of a group once two are one
abbrev pub joined_number : ℕ → ℕ → ℕ → ℕ
joined_number first second n = cond (nat_eq n (max first second)) (min first second) n

abbrev pub AreJoined : ℕ → ℕ → List ℕ → List ℕ → Type 0
AreJoined first second old new =
    EachIndex new (λ k. slice_index new k ≡ joined_number first second (slice_index old k))

-- numbers of groups, which are those of members, where the first n pairings have been compared with each other, and the
-- next one with the first m
pub record AreGroupedUpTo (ps : List Pairing) (groups : List ℕ) (n m : ℕ) : Type 0 where
  pub grouped : (k : ℕ) → k < 7 → AreGrouped ps k (slice_index groups k)
  pub no_later : (k : ℕ) → k < 7 → slice_index groups k ≤ k
  pub same :
      (i j : ℕ) → i < j → (j < n) ⊎ ((j ≡ n) × (i < m)) → AreCoupled ps i j
      → slice_index groups i ≡ slice_index groups j
