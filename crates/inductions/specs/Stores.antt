-- What the stores of a nest, and of the one with inductions substituted, are to each other.
use Rattle.std.specs.Prelude.{◌≡◌, ℕ, ◌≤◌, Ok, Some, ℤ, pos, ◌+ℤ◌, ◌*ℤ◌, Bool, true, false, List, [], ◌∷◌}
use Rattle.tree.specs.Plain.{Expression}
use Rattle.tree.specs.declared.ops.Value.TheVariants.{Int}
use Rattle.meaning.specs.Store.{Store, Cell}
use Rattle.meaning.specs.Value.{is_in_range, number_of, trip_count}
use Rattle.linear_forms.specs.Laws.{HoldsSized}
use Rattle.rewrite.specs.Following.{sequential}
use Rattle.nest_steps.specs.Statements.{cell_of}
use Rattle.inductions.specs.Together.{Is, is_own}
use Rattle.inductions.specs.declared.found.Induction.{Induction}

-- they have all in common, and each number is one of 64 bits; a run stores none of more than its own
pub record SameHeld (bits : ℕ) (s u : Store) : Type 0 where
  pub bounds : (x : List ℕ) → s.bounds x ≡ u.bounds x
  pub held : (c : Cell) → s.held c ≡ u.held c
  pub few : bits ≤ 63
  pub sized : HoldsSized u

abbrev pub element : List ℕ → ℤ → List ℤ → Cell
element y j js = record { name = y; subscripts = j ∷ js }

-- start: what the inductions hold before the nest. kept: names that no statement of the nest writes, as its symbols;
-- base: the store before it
module _ (bits : ℕ) (ds : List Induction) (start : List ℕ → ℤ) (kept : List ℕ → Bool) (base : Store) where
  -- the induction holds v in the first store, and in the second one what it held before the nest
  pub record IsApart (d : Induction) (v : ℤ) (s u : Store) : Type 0 where
    pub scalar : u.bounds d.name ≡ Some []
    pub first : s.held (cell_of d.name) ≡ Int v
    pub second : u.held (cell_of d.name) ≡ Int (start d.name)
    pub start_in : is_in_range bits (Int (start d.name)) ≡ true
    pub range : is_in_range bits (Int v) ≡ true

  -- all else is the same
  pub record AreApart (v : Induction → ℤ) (s u : Store) : Type 0 where
    pub bounds : (y : List ℕ) → s.bounds y ≡ u.bounds y
    pub held : (c : Cell) → is_own ds c.name ≡ false → s.held c ≡ u.held c
    pub elements : (y : List ℕ) (j : ℤ) (js : List ℤ) → s.held (element y j js) ≡ u.held (element y j js)
    pub each : (d : Induction) → Is ds d → IsApart d (v d) s u
    pub sized : HoldsSized u
    pub bounds_stay : (y : List ℕ) → u.bounds y ≡ base.bounds y
    pub held_stay : (c : Cell) → kept c.name ≡ true → u.held c ≡ base.held c

  -- the variables of all loops are scalars in both
  abbrev pub AreCounters : (List ℕ → Bool) → Store → Store → Type 0
  AreCounters counters s u = (y : List ℕ) → counters y ≡ true → (s.bounds y ≡ Some []) × (u.bounds y ≡ Some [])

  -- before a loop from 1 to z
  pub record AreBefore (counters : List ℕ → Bool) (last : Expression) (z : ℤ) (s u : Store) : Type 0 where
    pub apart : AreApart (λ d. start d.name) s u
    pub trip : number_of (sequential bits) last s ≡ Ok z
    pub scalars : AreCounters counters s u

  -- behind it: each has grown in each turn
  pub record AreBehind (counters : List ℕ → Bool) (z : ℤ) (s u : Store) : Type 0 where
    pub turns : ℕ
    pub count : trip_count (pos 1) z (pos 1) ≡ Ok turns
    pub apart : AreApart (λ d. start d.name +ℤ d.step *ℤ pos turns) s u
    pub scalars : AreCounters counters s u
