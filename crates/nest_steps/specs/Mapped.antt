-- A nest in which each statement has become a list of statements.
use Rattle.std.specs.Prelude.{◌≡◌, ⊤, Some, ℕ, suc, ◌+◌, ◌≤◌, ℤ, pos, List, [], ◌∷◌, ◌++◌, map, Ok}
use Rattle.tree.specs.Plain.{Number}
use Rattle.tree.specs.declared.ops.Value.TheVariants.{Int}
use Rattle.meaning.specs.Run.{does, does_all}
use Rattle.meaning.specs.Store.{Store, Cell, put}
use Rattle.meaning.specs.Value.{number_of, trip_count}
use Rattle.rewrite.specs.Following.{sequential}
use Rattle.nest.specs.Blocks.{block_of_parts, guarded_statement}
use Rattle.nest.specs.Plain.{Loop, Guarded, Part, Run, Turns, Choice, Label, Jump, Parts, no_parts, part, parts}
use Rattle.nest_steps.specs.Leading.{Leads}
use Rattle.std.specs.Prelude.{None}

abbrev mutual
  pub count_of : Part → ℕ
  count_of (Run g) = 1
  count_of (Turns l ps) = count_in ps
  count_of (Choice bs ps) = 0
  count_of (Label n) = 0
  count_of (Jump n) = 0

  pub count_in : Parts → ℕ
  count_in no_parts = 0
  count_in (part p ps) = count_of p + count_in ps

-- by the loops round it from the outside in, and by the number of statements before it
module _ (each : List Loop → ℕ → Guarded → List Guarded) where
  abbrev mutual
    pub mapped_parts_of : List Loop → ℕ → Part → List Part
    mapped_parts_of ls k (Run g) = map Run (each ls k g)
    mapped_parts_of ls k (Turns l ps) = Turns l (parts (mapped_in (ls ++ l ∷ []) k ps)) ∷ []
    mapped_parts_of ls k (Choice bs ps) = Choice bs ps ∷ []
    mapped_parts_of ls k (Label n) = Label n ∷ []
    mapped_parts_of ls k (Jump n) = Jump n ∷ []

    pub mapped_in : List Loop → ℕ → Parts → List Part
    mapped_in ls k no_parts = []
    mapped_in ls k (part p ps) = mapped_parts_of ls k p ++ mapped_in ls (k + count_of p) ps

  -- Known: what is known of a number of turns of a loop, the loops round it being at these iterations. at: what the
  -- stores are to each other there, where so many statements stand before
  module _ (bits line : ℕ) (Known : List ℕ → Loop → ℕ → Type 0)
      (at : List Loop → List ℕ → ℕ → Store → Store → Type 0) where
    abbrev pub cell_of_variable : Loop → Cell
    cell_of_variable l = record { name = l.variable; subscripts = [] }

    abbrev pub set : Loop → ℕ → Store → Store
    set l i s = put (cell_of_variable l) (Int (pos i)) s

    -- a loop from 1 by 1 with m statements in it
    pub record LoopLeads (ls : List Loop) (l : Loop) (is : List ℕ) (k m : ℕ) : Type 0 where
      pub first : l.first ≡ Number (pos 1)
      pub step : l.step ≡ pos 1
      pub scalars : (s u : Store) → at ls is k s u → (s.bounds l.variable ≡ Some []) × (u.bounds l.variable ≡ Some [])
      pub same : (s u : Store) → at ls is k s u → (z : ℤ) → number_of (sequential bits) l.last s ≡ Ok z
          → number_of (sequential bits) l.last u ≡ Ok z
      pub turns_are : (s u : Store) → at ls is k s u → (z : ℤ) (n : ℕ) → number_of (sequential bits) l.last s ≡ Ok z
          → trip_count (pos 1) z (pos 1) ≡ Ok n → Known is l n
      pub begins : (s u : Store) → at ls is k s u → at (ls ++ l ∷ []) (is ++ 1 ∷ []) k (set l 1 s) (set l 1 u)
      pub scalars_in : (i : ℕ) (s u : Store) → at (ls ++ l ∷ []) (is ++ i ∷ []) (k + m) s u
          → (s.bounds l.variable ≡ Some []) × (u.bounds l.variable ≡ Some [])
      pub variable : (i : ℕ) (s u : Store) → at (ls ++ l ∷ []) (is ++ i ∷ []) (k + m) s u
          → (s.held (cell_of_variable l) ≡ Int (pos i)) × (u.held (cell_of_variable l) ≡ Int (pos i))
      pub next : (i : ℕ) → suc i ≤ 2147483647 → (s u : Store) → at (ls ++ l ∷ []) (is ++ i ∷ []) (k + m) s u
          → at (ls ++ l ∷ []) (is ++ suc i ∷ []) k (set l (suc i) s) (set l (suc i) u)
      pub ends : (n : ℕ) → Known is l n → (s u : Store) → at (ls ++ l ∷ []) (is ++ suc n ∷ []) k s u
          → at ls is (k + m) s u

    -- each statement leads on, and so does each loop, at whatever iterations it comes to
    abbrev mutual
      pub AllLead : List Loop → List ℕ → ℕ → Part → Type 0
      AllLead ls is k (Run g) = Leads (at ls is k) (at ls is (k + 1))
          (does (sequential bits) None (guarded_statement g))
          (does_all (sequential bits) None (block_of_parts line (parts (map Run (each ls k g)))))
      AllLead ls is k (Turns l ps) = LoopLeads ls l is k (count_in ps)
          × ((n : ℕ) → Known is l n → (i : ℕ) → 1 ≤ i → i ≤ n → AllLeadIn (ls ++ l ∷ []) (is ++ i ∷ []) k ps)
      AllLead ls is k (Choice bs ps) = ⊥
      AllLead ls is k (Label n) = ⊥
      AllLead ls is k (Jump n) = ⊥

      pub AllLeadIn : List Loop → List ℕ → ℕ → Parts → Type 0
      AllLeadIn ls is k no_parts = ⊤
      AllLeadIn ls is k (part p ps) = AllLead ls is k p × AllLeadIn ls is (k + count_of p) ps
