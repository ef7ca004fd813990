-- Loops that stand in one another, with statements in them, and the instances of these statements (Allen and Kennedy,
-- "Optimizing Compilers for Modern Architectures", section 2.2).
use Rattle.std.specs.Prelude.{◌≡◌, ◌⊎◌, ⊤, ℕ, zero, suc, ◌<◌, ◌≤◌, ◌==◌, if◌then◌else◌, List, [], ◌∷◌, ◌++◌, map}

-- a statement, or a loop with what stands in it, each by its number
mutual
  pub data Shape : Type 0 where
    Single : ℕ → Shape
    Loop : ℕ → Shapes → Shape

  pub data Shapes : Type 0 where
    no_shapes : Shapes
    shape : Shape → Shapes → Shapes

-- the statements and the loops of a shape, in text order
abbrev mutual
  pub statements : Shape → List ℕ
  statements (Single s) = s ∷ []
  statements (Loop l ts) = statements_in ts

  pub statements_in : Shapes → List ℕ
  statements_in no_shapes = []
  statements_in (shape t ts) = statements t ++ statements_in ts

abbrev mutual
  pub loops_of_shape : Shape → List ℕ
  loops_of_shape (Single s) = []
  loops_of_shape (Loop l ts) = l ∷ loops_of_shapes ts

  pub loops_of_shapes : Shapes → List ℕ
  loops_of_shapes no_shapes = []
  loops_of_shapes (shape t ts) = loops_of_shape t ++ loops_of_shapes ts

-- the statement s stands in just the loops ls, from the outside in
abbrev mutual
  pub Stands : Shape → ℕ → List ℕ → Type 0
  Stands (Single r) s [] = r ≡ s
  Stands (Single r) s (m ∷ ls) = ⊥
  Stands (Loop l ts) s [] = ⊥
  Stands (Loop l ts) s (m ∷ ls) = (l ≡ m) × StandsIn ts s ls

  pub StandsIn : Shapes → ℕ → List ℕ → Type 0
  StandsIn no_shapes s ls = ⊥
  StandsIn (shape t ts) s ls = Stands t s ls ⊎ StandsIn ts s ls

-- the loops that stand round each statement, behind those of `round`, are the loops that the statement has
abbrev pub Fits : (ℕ → List ℕ) → List ℕ → Shape → Type 0
Fits loops_of round t = (s : ℕ) (ls : List ℕ) → Stands t s ls → loops_of s ≡ round ++ ls

abbrev pub FitsIn : (ℕ → List ℕ) → List ℕ → Shapes → Type 0
FitsIn loops_of round ts = (s : ℕ) (ls : List ℕ) → StandsIn ts s ls → loops_of s ≡ round ++ ls

-- how many loops of two lists are the same, from the outside in
abbrev pub common_of : List ℕ → List ℕ → ℕ
common_of (l ∷ ls) (m ∷ ms) = if l == m then suc (common_of ls ms) else 0
common_of _ _ = 0

-- ---- instances

-- a statement with the iterations of its loops, from the outside in
pub record Instance : Type 0 where
  pub statement : ℕ
  pub iterations : List ℕ

abbrev pub within_turn : ℕ → Instance → Instance
within_turn i x = record { statement = x.statement; iterations = i ∷ x.iterations }

-- what stands in n turns from turn i on
abbrev pub turns : {X : Type 0} → ℕ → ℕ → (ℕ → List X) → List X
turns i zero f = []
turns i (suc n) f = f i ++ turns (suc i) n f

-- trip: how many turns a loop has, by the iterations of the loops round it
module _ (trip : ℕ → List ℕ → ℕ) where
  -- the instances of a shape in the order of a sequential run, where the loops round it are at the iterations `before`
  abbrev mutual
    pub instances : Shape → List ℕ → List Instance
    instances (Single s) before = record { statement = s; iterations = [] } ∷ []
    instances (Loop l ts) before =
        turns 1 (trip l before) (λ i. map (within_turn i) (instances_in ts (before ++ i ∷ [])))

    pub instances_in : Shapes → List ℕ → List Instance
    instances_in no_shapes before = []
    instances_in (shape t ts) before = instances t before ++ instances_in ts before

  -- each iteration is from 1 to the trip of its loop
  abbrev pub Within : List ℕ → List ℕ → List ℕ → Type 0
  Within before [] [] = ⊤
  Within before (l ∷ ls) (i ∷ is) = (1 ≤ i) × (i ≤ trip l before) × Within (before ++ i ∷ []) ls is
  Within before _ _ = ⊥

-- ---- two lists of iterations

-- the first m are the same, and the next one of the first list is less
abbrev pub LessAt : ℕ → List ℕ → List ℕ → Type 0
LessAt zero (i ∷ is) (j ∷ js) = i < j
LessAt (suc m) (i ∷ is) (j ∷ js) = (i ≡ j) × LessAt m is js
LessAt m _ _ = ⊥

-- the first c are the same
abbrev pub SameUpTo : ℕ → List ℕ → List ℕ → Type 0
SameUpTo zero is js = ⊤
SameUpTo (suc c) (i ∷ is) (j ∷ js) = (i ≡ j) × SameUpTo c is js
SameUpTo (suc c) _ _ = ⊥
