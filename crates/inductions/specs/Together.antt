-- Inductions of one loop that are substituted at once: what is asked of them, and of the loops and the statements.
use Rattle.std.specs.Prelude.{◌≡◌, ◌⊎◌, ⊤, ℕ, ◌+◌, ◌<◌, ◌≤◌, nat_le, None, Some, is_some, Ok, ℤ, pos, neg_ℤ, ◌+ℤ◌}
use Rattle.std.specs.Prelude.{◌-ℤ◌, ◌*ℤ◌, Bool, true, false, not, ◌&&◌, ◌||◌, if◌then◌else◌, List, [], ◌∷◌, ◌++◌}
use Rattle.std.specs.List.{AllByRecursion}
use Rattle.std.specs.Str.{bytes_eq}
use Rattle.tree.specs.Plain.{Expression, Named, Number, no_subscripts, subscript}
use Rattle.tree.specs.declared.ops.Value.{Value}
use Rattle.tree.specs.declared.ops.Value.TheVariants.{Int}
use Rattle.meaning.specs.Reads.{names_in}
use Rattle.meaning.specs.Store.{Store}
use Rattle.meaning.specs.Value.{is_in_range, value_of}
use Rattle.rewrite.specs.Following.{sequential}
use Rattle.rewrite.specs.Suits.{Suiting, SuitsStatement}
use Rattle.linear_forms.specs.Linear.{is_limited}
use Rattle.nest.specs.Blocks.{guarded_statement}
use Rattle.nest.specs.Plain.{Guarded, Loop, Part, Run, Turns, Choice, Label, Jump, Parts, no_parts, part}
use Rattle.nest_steps.specs.Mapped.{count_in, count_of}
use Rattle.nest_steps.specs.Statements.{cell_of}
use Rattle.inductions.specs.Growing.{form_before, form_behind}
use Rattle.inductions.specs.Putting.{found, grows_at, putting}
use Rattle.inductions.specs.declared.found.Induction.{Induction}

-- ---- names

module _ (ds : List Induction) where
  -- it is one of them
  abbrev pub Is : Induction → Type 0
  Is d = found ds d.name ≡ Some d

  abbrev pub is_own : List ℕ → Bool
  is_own x = is_some (found ds x)

  abbrev pub is_suited : Expression → Bool
  is_suited (Named x no_subscripts) = true
  is_suited (Named x (subscript p ps)) = not (is_own x)
  is_suited _ = true

-- `others` are names that no statement writes besides
module _ (others : List ℕ → Bool) (ds : List Induction) where
  -- a name whose value may change in both runs
  abbrev pub is_free : List ℕ → Bool
  is_free x = not (is_own ds x) && not (others x)

  abbrev pub forms_suit : Suiting
  forms_suit = record { expression = is_suited ds; left = λ l. is_free l.name; variable = is_free }

-- ---- numbers

-- in the turn i of the outermost loop, where so many statements stand before, by what it was before the nest
abbrev pub number_in : (List ℕ → ℤ) → Induction → ℕ → ℕ → ℤ
number_in start d i k = start d.name +ℤ d.step *ℤ (if nat_le k d.place then pos i -ℤ pos 1 else pos i)

-- ---- what is asked

-- of the outermost loop, with this counter: its forms are within the limits, and its name counts no loop
pub record IsInduction (counter : List ℕ) (counters : List ℕ → Bool) (d : Induction) : Type 0 where
  pub less : d.less ≡ neg_ℤ d.step
  pub before : is_limited 1 (form_before d.step) ≡ true
  pub behind : is_limited 1 (form_behind d.step) ≡ true
  pub apart : bytes_eq counter d.name ≡ false
  pub free : counters d.name ≡ false

abbrev pub AreInductions : List ℕ → (List ℕ → Bool) → List Induction → Type 0
AreInductions counter counters ds = (d : Induction) → Is ds d → IsInduction counter counters d

-- an assignment that lets it grow by its step, without a guard
pub record Grows (bits : ℕ) (d : Induction) (g : Guarded) : Type 0 where
  pub unguarded : g.guard ≡ None
  pub left : g.left ≡ record { name = d.name; subscripts = no_subscripts }
  pub right : (z : ℤ) (v : Value) (s : Store) → is_in_range bits (Int z) ≡ true → s.bounds d.name ≡ Some []
      → s.held (cell_of d.name) ≡ Int z → value_of (sequential bits) g.right s ≡ Ok v → v ≡ Int (z +ℤ d.step)

-- the statement of the number k lets one grow by its step, and no other one
pub record LetsGrow (bits : ℕ) (ds : List Induction) (k : ℕ) (g : Guarded) : Type 0 where
  pub induction : Induction
  pub is : Is ds induction
  pub place : k ≡ induction.place
  pub grows : Grows bits induction g
  pub only : (e : Induction) → Is ds e → e.place ≡ k → e ≡ induction

-- a loop from 1 by 1, by a counter that is that of no loop round it; in its trip none of the scalars stands
pub record Counts (counters : List ℕ → Bool) (ds : List Induction) (ls : List Loop) (l : Loop) : Type 0 where
  pub first : l.first ≡ Number (pos 1)
  pub step : l.step ≡ pos 1
  pub counts : counters l.variable ≡ true
  pub own : AllByRecursion (λ (o : Loop). bytes_eq l.variable o.variable ≡ false) ls
  pub last : AllByRecursion (λ x. is_own ds x ≡ false) (names_in l.last)

-- `counters` are the variables of all loops
module _ (bits : ℕ) (counter : List ℕ) (counters kept : List ℕ → Bool) (ds : List Induction) where
  -- names that no statement writes
  abbrev pub is_settled : List ℕ → Bool
  is_settled x = counters x || kept x

  abbrev mutual
    pub Fits : List Loop → ℕ → Part → Type 0
    Fits ls k (Run g) = LetsGrow bits ds k g
        ⊎ ((grows_at ds k ≡ false)
        × SuitsStatement (putting counter ds k) (forms_suit is_settled ds) (guarded_statement g))
    Fits ls k (Turns l ps) = Counts counters ds ls l
        × ((d : Induction) → Is ds d → (d.place < k) ⊎ (k + count_in ps ≤ d.place)) × FitIn (ls ++ l ∷ []) k ps
    Fits ls k (Choice bs ps) = ⊥
    Fits ls k (Label n) = ⊥
    Fits ls k (Jump n) = ⊥

    pub FitIn : List Loop → ℕ → Parts → Type 0
    FitIn ls k no_parts = ⊤
    FitIn ls k (part p ps) = Fits ls k p × FitIn ls (k + count_of p) ps

  -- the outermost loop, in whose own body all of them grow
  pub record AllGrowIn (l : Loop) (ps : Parts) : Type 0 where
    pub counts : Counts counters ds [] l
    pub variable : l.variable ≡ counter
    pub places : (d : Induction) → Is ds d → d.place < count_in ps
    pub some : 0 < count_in ps
    pub fit : FitIn (l ∷ []) 0 ps
