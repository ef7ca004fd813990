-- What the stores of a nest and of the expanded one are to each other, place by place.
use Rattle.std.specs.Prelude.{◌≡◌, ⊤, Some, None, ℕ, ◌≤◌, ℤ, pos, true, List, [], ◌∷◌, map, reverse}
use Rattle.tree.specs.declared.ops.Value.TheVariants.{Int}
use Rattle.meaning.specs.Store.{Store, Cell, is_within}
use Rattle.meaning.specs.Value.{is_in_range}
use Rattle.nest.specs.Plain.{Loop}
use Rattle.nest_order.specs.orders.Lists.{Each, In}
use Rattle.nest_steps.specs.Rounds.{Hold}
use Rattle.nest_steps.specs.Statements.{cell_of}
use Rattle.scalar_expand.specs.Expanded.{named_private}
use Rattle.scalar_expand.specs.declared.privates.Private.{Private}
use Rattle.scalar_expand.specs.declared.privates.RoundLoop.{RoundLoop}

abbrev pub arrays : List Private → List (List ℕ)
arrays ps = map (λ (p : Private). p.array) ps

-- subscripts stand the innermost loop first
abbrev pub numbers : List ℕ → List ℤ
numbers is = reverse (map pos is)

-- the element of these iterations, from the outside in
abbrev pub element_cell : Private → List ℕ → Cell
element_cell p is = record { name = p.array; subscripts = numbers is }

-- the variables of the loops hold these iterations
abbrev pub AreTurned : List RoundLoop → List ℕ → Store → Type 0
AreTurned [] [] u = ⊤
AreTurned [] (i ∷ is) u = ⊥
AreTurned (l ∷ ls) [] u = ⊥
AreTurned (l ∷ ls) (i ∷ is) u =
    (u.bounds l.variable ≡ Some []) × (u.held (cell_of l.variable) ≡ Int (pos i)) × AreTurned ls is u

-- a private scalar with the iterations at which it was given its value
abbrev pub Begun : Type 0
Begun = Private × List ℕ

-- these private scalars, each at these iterations
abbrev pub all_at : List ℕ → List Private → List Begun
all_at is [] = []
all_at is (p ∷ ps) = (p, is) ∷ all_at is ps

-- one list begins with the other
abbrev pub IsFront : List ℕ → List ℕ → Type 0
IsFront [] js = ⊤
IsFront (i ∷ is) [] = ⊥
IsFront (i ∷ is) (j ∷ js) = (i ≡ j) × IsFront is js

-- limits: the bounds that an array is allocated with; lasts: the last iteration of the loops round a scalar; value:
-- what the symbols hold; IsOwn: what keeps its place as a scalar besides
module _ (bits : ℕ) (ps : List Private) (limits : Private → List (ℤ × ℤ)) (lasts : Private → List ℕ)
    (symbols : List (List ℕ)) (value : List ℕ → ℤ) (IsCounter : List ℕ → Type 0) (IsOwn : Private → Type 0) where
  -- alike but for private scalars and their arrays, which are allocated in the second store
  pub record AreBeside (s u : Store) : Type 0 where
    pub bounds : (z : List ℕ) → named_private ps z ≡ None → ¬ In z (arrays ps) → u.bounds z ≡ s.bounds z
    pub held : (c : Cell) → named_private ps c.name ≡ None → ¬ In c.name (arrays ps) → u.held c ≡ s.held c
    pub scalars : (z : List ℕ) (p : Private) → named_private ps z ≡ Some p → s.bounds z ≡ Some []
    pub arrays : (p : Private) → In p ps → u.bounds p.array ≡ Some (limits p)
    pub own : (p : Private) → In p ps → IsOwn p → u.bounds p.name ≡ Some []
    pub counters : (z : List ℕ) → IsCounter z → s.bounds z ≡ Some []
    pub fixed : (z : List ℕ) → In z symbols → (s.bounds z ≡ Some []) × (s.held (cell_of z) ≡ Int (value z))

  -- the element of these iterations holds what the scalar holds
  pub record IsElement (b : Begun) (s u : Store) : Type 0 where
    pub among : In b.0 ps
    pub same : u.held (element_cell b.0 b.1) ≡ s.held (cell_of b.0.name)
    pub turned : AreTurned b.0.loops b.1 u
    pub within : is_within (limits b.0) (numbers b.1) ≡ true
    pub range : is_in_range bits (s.held (cell_of b.0.name)) ≡ true

  -- Where these iterations are the last ones of the loops round a place, the loops further in have ended: if each loop
  -- has a turn, the element of the last iteration of all holds what the scalar holds
  pub record IsPassed (b : Begun) (s u : Store) : Type 0 where
    pub among : In b.0 ps
    pub same : IsFront b.1 (lasts b.0) → Each (λ i. 1 ≤ i) (lasts b.0)
        → (u.held (element_cell b.0 (lasts b.0)) ≡ s.held (cell_of b.0.name))
        × (is_in_range bits (s.held (cell_of b.0.name)) ≡ true)

  -- In these loops, at these iterations, with these scalars begun and those passed. What is kept holds the same in both
  pub record AreSo (ls : List Loop) (is : List ℕ) (begun past : List Begun) (Kept : Private → Type 0)
      (s u : Store) : Type 0 where
    pub beside : AreBeside s u
    pub turned : Hold ls is s
    pub elements : (b : Begun) → In b begun → IsElement b s u
    pub passed : (b : Begun) → In b past → IsPassed b s u
    pub kept : (p : Private) → In p ps → Kept p → u.held (cell_of p.name) ≡ s.held (cell_of p.name)

  -- ---- names

  -- the private scalars and their arrays have names of their own
  pub record AreApart : Type 0 where
    pub named : (p : Private) → In p ps → named_private ps p.name ≡ Some p
    pub apart : (p q : Private) → In p ps → In q ps → p.array ≡ q.array → p ≡ q
    pub counters : (z : List ℕ) → IsCounter z → (named_private ps z ≡ None) × (¬ In z (arrays ps))
    pub free : (z : List ℕ) → In z symbols → (named_private ps z ≡ None) × (¬ In z (arrays ps)) × (¬ IsCounter z)
    pub loops : (p : Private) → In p ps → (l : RoundLoop) → In l p.loops → IsCounter l.variable
    pub own : (p q : Private) → In p ps → In q ps → IsOwn q → ¬ (p.array ≡ q.name)
