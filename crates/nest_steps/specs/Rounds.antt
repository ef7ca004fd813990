-- The loops round a place: each variable holds its iteration, in both runs.
use Rattle.std.specs.Prelude.{◌≡◌, ◌≤◌, ⊤, Ok, Some, ℕ, suc, ◌+◌, ℤ, pos, true, false, Bool, List, [], ◌∷◌, ◌++◌}
use Rattle.std.specs.List.{AllByRecursion}
use Rattle.std.specs.Str.{bytes_eq}
use Rattle.tree.specs.Plain.{Number}
use Rattle.tree.specs.declared.ops.Value.{Value}
use Rattle.tree.specs.declared.ops.Value.TheVariants.{Int}
use Rattle.meaning.specs.Store.{Store, put}
use Rattle.meaning.specs.Value.{is_in_range, number_of, trip_count}
use Rattle.rewrite.specs.Following.{sequential}
use Rattle.nest.specs.Plain.{Loop}
use Rattle.nest_steps.specs.Statements.{cell_of}

abbrev pub Hold : List Loop → List ℕ → Store → Type 0
Hold [] [] s = ⊤
Hold [] (i ∷ is) s = ⊥
Hold (l ∷ ls) [] s = ⊥
Hold (l ∷ ls) (i ∷ is) s = (s.held (cell_of l.variable) ≡ Int (pos i)) × Hold ls is s

-- counters: the variables of all loops
module _ (bits : ℕ) (counters : List ℕ → Bool) (like : List ℕ → ℕ → Store → Store → Type 0) where
  pub record InLoops (ls : List Loop) (is : List ℕ) (k : ℕ) (s u : Store) : Type 0 where
    pub stores : like is k s u
    pub scalars : (y : List ℕ) → counters y ≡ true → (s.bounds y ≡ Some []) × (u.bounds y ≡ Some [])
    pub first : Hold ls is s
    pub second : Hold ls is u

  -- what the stores are to each other doesn't depend on the variables of loops
  abbrev pub IsSteady : Type 0
  IsSteady = (is : List ℕ) (k : ℕ) (s u : Store) (y : List ℕ) (v : Value)
      → is_in_range bits v ≡ true → counters y ≡ true → like is k s u
      → like is k (put (cell_of y) v s) (put (cell_of y) v u)

  -- of a loop with m statements in it
  pub record Turning (Known : List ℕ → Loop → ℕ → Type 0) (ls : List Loop) (l : Loop) (is : List ℕ) (k m : ℕ)
      : Type 0 where
    pub first : l.first ≡ Number (pos 1)
    pub step : l.step ≡ pos 1
    pub counter : counters l.variable ≡ true
    pub own : AllByRecursion (λ (o : Loop). bytes_eq l.variable o.variable ≡ false) ls
    pub same : (s u : Store) → InLoops ls is k s u → (z : ℤ) → number_of (sequential bits) l.last s ≡ Ok z
        → number_of (sequential bits) l.last u ≡ Ok z
    pub turns_are : (s u : Store) → InLoops ls is k s u → (z : ℤ) (n : ℕ) → number_of (sequential bits) l.last s ≡ Ok z
        → trip_count (pos 1) z (pos 1) ≡ Ok n → Known is l n
    pub begins : (s u : Store) → like is k s u → like (is ++ 1 ∷ []) k s u
    pub next : (i : ℕ) → suc i ≤ 2147483647 → (s u : Store) → like (is ++ i ∷ []) (k + m) s u
        → like (is ++ suc i ∷ []) k s u
    pub ends : (n : ℕ) → Known is l n → (s u : Store) → like (is ++ suc n ∷ []) k s u → like is (k + m) s u
