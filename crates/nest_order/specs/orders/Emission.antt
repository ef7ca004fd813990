-- Recursive emission (Allen and Kennedy, section 2.4, "codegen"): at each level the components one after another, each
-- in its next loop, with what is emitted for its statements there.
use Rattle.std.specs.Prelude.{◌≡◌, ◌↔◌, ⊤, ℕ, suc, List, [], ◌∷◌, ◌++◌, drop}
use Rattle.std.specs.List.{concat}
use Rattle.nest_order.specs.orders.Lists.{In, Each, Pairwise, Distinct}
use Rattle.nest_order.specs.orders.Nests.{Edge, Remains}
use Rattle.nest_order.specs.orders.Shapes.{Shape, Single, Loop, Shapes, no_shapes, shape, statements_in, StandsIn}

module _ (edges : List Edge) (d : ℕ) where
  abbrev pub Leap : ℕ → ℕ → Type 0
  Leap s r = (e : Edge) × In e edges × (e.from ≡ s) × (e.to ≡ r) × Remains d e.level

  -- by such edges from s over the statements rs to r, all of them in the part
  abbrev pub Walk : List ℕ → ℕ → List ℕ → ℕ → Type 0
  Walk part s [] r = s ≡ r
  Walk part s (q ∷ rs) r = Leap s q × In q part × Walk part q rs r

  abbrev pub Leads : List ℕ → ℕ → ℕ → Type 0
  Leads part s r = (rs : List ℕ) × Walk part s rs r

  -- no edge that remains leads back from the later class to the earlier one
  abbrev pub NoneFrom : List ℕ → List ℕ → Type 0
  NoneFrom earlier later = (e : Edge) → In e edges → In e.from later → In e.to earlier → ¬ (Remains d e.level)

  -- the part in classes, within each of which all statements lead to one another, each class before those that it leads
  -- to
  pub record Components (part : List ℕ) (classes : List (List ℕ)) : Type 0 where
    pub same : (s : ℕ) → In s part ↔ In s (concat classes)
    pub once : Distinct (concat classes)
    pub reachable : Each (λ c. (s r : ℕ) → In s c → In r c → Leads part s r) classes
    pub filled : Each (λ c. ¬ (c ≡ [])) classes
    pub forward : Pairwise NoneFrom classes

module _ (loops_of : ℕ → List ℕ) (edges : List Edge) where
  -- l is the loop in which s stands within its first d loops
  abbrev pub IsNextLoop : ℕ → ℕ → ℕ → Type 0
  IsNextLoop d s l = (rest : List ℕ) × (drop d (loops_of s) ≡ l ∷ rest)

  -- Within d loops: what is emitted for a component is its one statement, where that stands in no further loop, or the
  -- next loop round its statements, with what is emitted for them one level deeper
  abbrev mutual
    pub IsEmittedFor : ℕ → List ℕ → Shape → Type 0
    IsEmittedFor d c (Single s) = (c ≡ s ∷ []) × (drop d (loops_of s) ≡ [])
    IsEmittedFor d c (Loop l ts) =
        ((s : ℕ) × In s c × IsNextLoop d s l)
        × ((classes : List (List ℕ)) × Components edges (suc d) c classes × AreEmittedFor (suc d) classes ts)

    pub AreEmittedFor : ℕ → List (List ℕ) → Shapes → Type 0
    AreEmittedFor d [] no_shapes = ⊤
    AreEmittedFor d (c ∷ cs) (shape t ts) = IsEmittedFor d c t × AreEmittedFor d cs ts
    AreEmittedFor d _ _ = ⊥

  -- within d loops, what is emitted for a part of a nest
  abbrev pub IsEmitted : ℕ → List ℕ → Shapes → Type 0
  IsEmitted d part ts = (classes : List (List ℕ)) × Components edges d part classes × AreEmittedFor d classes ts

-- in each loop stands a statement
abbrev mutual
  pub HasStatements : Shape → Type 0
  HasStatements (Single s) = ⊤
  HasStatements (Loop l ts) = ((s : ℕ) × (ls : List ℕ) × StandsIn ts s ls) × HaveStatements ts

  pub HaveStatements : Shapes → Type 0
  HaveStatements no_shapes = ⊤
  HaveStatements (shape t ts) = HasStatements t × HaveStatements ts

-- each statement of the part once, in its own loops, and a statement in each loop
pub record IsArranged (loops_of : ℕ → List ℕ) (round : List ℕ) (part : List ℕ) (ts : Shapes) : Type 0 where
  pub only : (s : ℕ) (ls : List ℕ) → StandsIn ts s ls → In s part × (loops_of s ≡ round ++ ls)
  pub all : (s : ℕ) (ls : List ℕ) → In s part → loops_of s ≡ round ++ ls → StandsIn ts s ls
  pub once : Distinct (statements_in ts)
  pub filled : HaveStatements ts
