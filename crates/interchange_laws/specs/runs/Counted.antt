-- Trips that can be counted in a chain of loops, and after a loop is moved outwards.
use Rattle.std.specs.Prelude.{◌≡◌, ◌⊎◌, ⊤, Ok, None, ℕ, ◌≤◌, ℤ, pos, List, [], ◌∷◌, ◌++◌}
use Rattle.meaning.specs.Reads.{names_in}
use Rattle.meaning.specs.Run.{State, Going, does}
use Rattle.meaning.specs.Store.{Store}
use Rattle.meaning.specs.Value.{number_of, trip_count}
use Rattle.nest_order.specs.orders.Lists.{Each, In}
use Rattle.nest_order.specs.runs.Blocks.{Layout, nest_statement}
use Rattle.nest_order.specs.runs.Forms.{AreCounted}
use Rattle.nest_order.specs.runs.Guarded.{sequential}
use Rattle.nest_order.specs.runs.Nests.{RunNest}
use Rattle.nest_order.specs.runs.Stores.{HoldsNest, IsNestIn, Setting}
use Rattle.interchange_laws.specs.orders.Moves.{chain_of}
use Rattle.interchange_laws.specs.runs.Nests.{rearranged_nest}

-- trips have symbols alone: each has one number in all stores in which the nest is run; and it is the same at all
-- iterations how often a loop turns
pub record HaveNumbers (bits : ℕ) (n : RunNest) (w : Setting) (ls : List ℕ) : Type 0 where
  pub top : ℕ → ℤ
  pub gives : (l : ℕ) (s : Store) → In l ls → HoldsNest bits n w s
      → number_of (sequential bits) (n.trip_at l) s ≡ Ok (top l)
  pub turns : ℕ → ℕ
  pub same : (l : ℕ) (before : List ℕ) → In l ls → n.turns_of w.values l before ≡ turns l

-- the number of its trip can be counted
abbrev pub IsCountable : (ℕ → ℤ) → (ℕ → ℕ) → ℕ → Type 0
IsCountable top turns l = trip_count (pos 1) (top l) (pos 1) ≡ Ok (turns l)

-- The loop m may be moved outwards over the loops `over`: its trip can be counted anyhow, or it can where that of the
-- first of them can, or each of them has a turn where it can be counted
abbrev pub MayMoveOver : (ℕ → ℤ) → (ℕ → ℕ) → ℕ → List ℕ → Type 0
MayMoveOver top turns m over =
    IsCountable top turns m
    ⊎ (((x : ℕ) × (rest : List ℕ) × (over ≡ x ∷ rest) × (IsCountable top turns x → IsCountable top turns m))
    ⊎ Each (λ x. IsCountable top turns x → 1 ≤ turns x) over)

-- each trip of a chain can be counted where the loops round it have turns
abbrev pub AreCountable : (ℕ → ℤ) → (ℕ → ℕ) → List ℕ → Type 0
AreCountable top turns [] = ⊤
AreCountable top turns (l ∷ ls) = IsCountable top turns l × (1 ≤ turns l → AreCountable top turns ls)

-- so can those of the chain with the loop moved, and the new nest's trips are counted as they are come to
abbrev pub MovedTripsAreCounted : Type 0
MovedTripsAreCounted =
    (bits : ℕ) (n : RunNest) (w : Setting) (outer over inner ss : List ℕ) (l : ℕ)
    (has : HaveNumbers bits n w (outer ++ (l ∷ (over ++ inner)))) → MayMoveOver has.top has.turns l over
    → AreCountable has.top has.turns (outer ++ (over ++ l ∷ inner))
    → AreCountable has.top has.turns (outer ++ (l ∷ (over ++ inner)))
    × AreCounted bits n w [] [] (chain_of (outer ++ (l ∷ (over ++ inner))) ss)

-- ---- the first chain, and the chain with its loops in another order

-- a trip names symbols alone, and where it can be counted, so often does the loop turn
pub record HaveSymbolTrips (bits : ℕ) (n : RunNest) (w : Setting) (ls : List ℕ) : Type 0 where
  pub numbers : HaveNumbers bits n w ls
  pub names : (l : ℕ) (x : List ℕ) → In l ls → In x (names_in (n.trip_at l)) → In x n.symbols
  pub counted : (l k : ℕ) → In l ls → trip_count (pos 1) (numbers.top l) (pos 1) ≡ Ok k → k ≡ numbers.turns l

-- where the run of a nest goes on, its trips could be counted
abbrev pub RunTripsAreCountable : Type 0
RunTripsAreCountable =
    (bits : ℕ) (n : RunNest) (w : Setting) (l : ℕ) (ls ss : List ℕ) (y : Layout) (s : State)
    (has : HaveNumbers bits n w (l ∷ ls)) → 31 ≤ bits → IsNestIn bits n w → n.shape ≡ chain_of (l ∷ ls) ss
    → HoldsNest bits n w s.store → (does (sequential bits) None (nest_statement n y [] n.shape) s).way ≡ Going
    → AreCountable has.top has.turns (l ∷ ls)

-- with its loops in another order it is a nest, too
abbrev pub RearrangedNestIsNest : Type 0
RearrangedNestIsNest =
    (bits : ℕ) (n : RunNest) (w : Setting) (l : ℕ) (ls ss ps : List ℕ)
    → IsNestIn bits n w → n.shape ≡ chain_of (l ∷ ls) ss → HaveSymbolTrips bits n w (l ∷ ls)
    → IsNestIn bits (rearranged_nest ps n (l ∷ ls) ss) w
