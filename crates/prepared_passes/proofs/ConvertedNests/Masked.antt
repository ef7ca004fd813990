-- Stores that have masks besides, and statements that assign masks.
use Rattle.std.proofs.Common.{◌≡◌, ◌⊎◌, ℕ, ◌+◌, ◌<◌, ◌≤◌, ◌^◌, Bool, List, [], ◌∷◌, ◌++◌, Option, Some, None, arith}
use Rattle.std.proofs.lemmas.Fmt.{decimal_injective}
use Rattle.std.specs.Prelude.{codes, decimal}
use Rattle.tree.specs.declared.ops.Value.TheVariants.{Truth}
use Rattle.meaning.specs.Reads.{names_in, names_in_subscripts}
use Rattle.meaning.specs.Store.{Store, Cell}
use Rattle.nest.specs.Plain.{Part, Run, Turns, Choice, Label, Jump, Parts, no_parts, part, Branches, no_branches, branch}
use Rattle.nest_order.specs.orders.Lists.{In}
use Rattle.nest_order.specs.runs.Guarded.{variable_cell}
use Rattle.if_convert.specs.Masks.{Question, Test, Other, Unleft, Masking, Kept, Asks, Clears, Leaves, Turned, mask_name}
use Rattle.if_convert.specs.declared.points.Jumped.{Jumped}
use Rattle.prepared_passes.proofs.ConvertedNests.Moments.{Masks}

abbrev pub flag : ℕ → Cell
flag i = variable_cell (mask_name i)

-- no mask has this name
abbrev pub IsOther : List ℕ → Type 0
IsOther y = (i : ℕ) → ¬ (mask_name i ≡ y)

abbrev pub NamesOthers : List (List ℕ) → Type 0
NamesOthers ys = (y : List ℕ) → In y ys → IsOther y

same_rest : (xs ys zs : List ℕ) → xs ++ ys ≡ xs ++ zs → ys ≡ zs
same_rest [] ys zs e = e
same_rest (x ∷ xs) ys zs e = same_rest xs ys zs cc

pub mask_same : (i k : ℕ) → i < 2 ^ 32 → k < 2 ^ 32 → mask_name i ≡ mask_name k → i ≡ k
mask_same i k h l e =
    let same = decimal_injective (i + 1) (k + 1) (omega (arith, h)) (omega (arith, l)) (same_rest (codes "FV_MASK_") (decimal (i + 1)) (decimal (k + 1)) e) in
    omega (arith, same)

-- The masks from k0 on, and below k1, are scalars. While one part runs, those from `low` on, and below `mid`, belong to
-- its jumps, and those from `mid` on to its conditions
module _ (k0 k1 low mid : ℕ) where
  abbrev pub IsThere : ℕ → Type 0
  IsThere i = (k0 ≤ i) × (i < k1)

  abbrev pub IsGuard : ℕ → Type 0
  IsGuard i = IsThere i × ((i < low) ⊎ (mid ≤ i))

  abbrev pub IsJump : ℕ → Type 0
  IsJump j = IsThere j × (j < mid)

  abbrev pub IsNewGuard : ℕ → Type 0
  IsNewGuard i = IsThere i × (mid ≤ i)

  abbrev pub IsNewJump : ℕ → Type 0
  IsNewJump j = IsThere j × ((low ≤ j) × (j < mid))

  -- the store t is s with what the masks hold
  pub record HasMasks (s t : Store) (m : Masks) : Type 0 where
    pub bounds : (y : List ℕ) → IsOther y → t.bounds y ≡ s.bounds y
    pub held : (c : Cell) → IsOther c.name → t.held c ≡ s.held c
    pub scalars : (i : ℕ) → IsThere i → t.bounds (mask_name i) ≡ Some []
    pub guards : (i : ℕ) → IsGuard i → t.held (flag i) ≡ Truth (m.guards i)
    pub jumps : (j : ℕ) → IsJump j → t.held (flag j) ≡ Truth (m.jumps j)

  abbrev pub IsUsed : Option ℕ → Type 0
  IsUsed None = Unit {0}
  IsUsed (Some i) = IsGuard i

  abbrev pub AsksOthers : Question → Type 0
  AsksOthers (Test e) = NamesOthers (names_in e)
  AsksOthers (Other i) = IsGuard i
  AsksOthers (Unleft ls) = (l : Jumped) → In l ls → IsJump l.mask

  abbrev pub IsNotGuard : ℕ → Option ℕ → Type 0
  IsNotGuard i None = Unit {0}
  IsNotGuard i (Some k) = ¬ (i ≡ k)

  abbrev pub IsNotAsked : ℕ → Question → Type 0
  IsNotAsked i (Test e) = Unit {0}
  IsNotAsked i (Other k) = ¬ (i ≡ k)
  IsNotAsked i (Unleft ls) = Unit {0}

  -- it has masks of their kinds, and the source's statements name no masks
  abbrev pub IsSuited : Masking → Type 0
  IsSuited (Kept g c) = IsUsed g × (c.guard ≡ None) × NamesOthers (names_in c.right ++ (c.left.name ∷ names_in_subscripts c.left.subscripts))
  IsSuited (Asks g i q) = IsUsed g × IsNewGuard i × AsksOthers q × IsNotGuard i g × IsNotAsked i q
  IsSuited (Clears j) = IsNewJump j
  IsSuited (Leaves g j) = IsUsed g × IsNewJump j
  IsSuited (Turned l ps) = ⊥

-- what can be known of stores between parts: the masks are LOGICAL scalars
pub record AreBeside (k0 k1 : ℕ) (s t : Store) : Type 0 where
  pub bounds : (y : List ℕ) → IsOther y → t.bounds y ≡ s.bounds y
  pub held : (c : Cell) → IsOther c.name → t.held c ≡ s.held c
  pub scalars : (i : ℕ) → IsThere k0 k1 0 0 i → t.bounds (mask_name i) ≡ Some []
  pub flags : (i : ℕ) → IsThere k0 k1 0 0 i → (b : Bool) × (t.held (flag i) ≡ Truth b)

-- ---- parts that name no masks

abbrev mutual
  pub IsFree : Part → Type 0
  IsFree (Run g) = NamesOthers (names_in g.right ++ (g.left.name ∷ names_in_subscripts g.left.subscripts))
  IsFree (Turns l ps) = IsOther l.variable × NamesOthers (names_in l.first) × NamesOthers (names_in l.last) × AreFree ps
  IsFree (Choice bs other) = BranchesAreFree bs × AreFree other
  IsFree (Label k) = Unit {0}
  IsFree (Jump k) = Unit {0}

  pub AreFree : Parts → Type 0
  AreFree no_parts = Unit {0}
  AreFree (part p ps) = IsFree p × AreFree ps

  pub BranchesAreFree : Branches → Type 0
  BranchesAreFree no_branches = Unit {0}
  BranchesAreFree (branch test ps bs) = NamesOthers (names_in test) × AreFree ps × BranchesAreFree bs
