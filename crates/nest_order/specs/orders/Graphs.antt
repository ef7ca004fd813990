-- Dependence graphs of nests: candidates for a dependence, and what an order of instances needs of the edges (Allen and
-- Kennedy, sections 2.2 and 3.2; Goff, Kennedy and Tseng, "Practical dependence testing", PLDI 1991).
use Rattle.std.specs.Prelude.{◌≡◌, ◌⊎◌, ⊤, ℕ, suc, ◌<◌, List, [], ◌∷◌, length}
use Rattle.nest_order.specs.orders.Lists.{In}
use Rattle.nest_order.specs.orders.Nests.{Level, Carried, Independent, Edge}
use Rattle.nest_order.specs.orders.Shapes.{Shape, statements, Instance, Within}

pub data Direction : Type 0 where
  Less : Direction
  Same : Direction
  Greater : Direction

-- a reference of a statement: 0 is the left side, all others are read
pub record Place : Type 0 where
  pub statement : ℕ
  pub reference : ℕ

-- two references in this order, with a direction for each of their common loops
pub record Candidate : Type 0 where
  pub from : Place
  pub to : Place
  pub vector : List Direction

-- two instances so related can come in this order: the first direction other than `=` is `<`, or there is none and the
-- first statement stands earlier in the text
abbrev pub MayBegin : List Direction → ℕ → ℕ → Type 0
MayBegin [] s r = s < r
MayBegin (Less ∷ ds) s r = ⊤
MayBegin (Same ∷ ds) s r = MayBegin ds s r
MayBegin (Greater ∷ ds) s r = ⊥

-- the iterations of two instances are related as the directions say
abbrev pub Related : List Direction → List ℕ → List ℕ → Type 0
Related [] is js = ⊤
Related (Less ∷ ds) (i ∷ is) (j ∷ js) = (i < j) × Related ds is js
Related (Same ∷ ds) (i ∷ is) (j ∷ js) = (i ≡ j) × Related ds is js
Related (Greater ∷ ds) (i ∷ is) (j ∷ js) = (j < i) × Related ds is js
Related (d ∷ ds) _ _ = ⊥

-- ---- what is listed

-- a direction, or `*`, which stands for all three
pub data Sign : Type 0 where
  Just : Direction → Sign
  Any : Sign

abbrev pub Covers : List Sign → List Direction → Type 0
Covers [] [] = ⊤
Covers (Just d ∷ ss) (e ∷ es) = (d ≡ e) × Covers ss es
Covers (Any ∷ ss) (e ∷ es) = Covers ss es
Covers _ _ = ⊥

pub record Arc : Type 0 where
  pub from : Place
  pub to : Place
  pub signs : List Sign

abbrev pub StandsFor : Arc → Candidate → Type 0
StandsFor a c = (a.from ≡ c.from) × (a.to ≡ c.to) × Covers a.signs c.vector

-- the level of signs: so many `=` and then something else, or loop independent
abbrev pub level_after : ℕ → List Sign → Level
level_after m [] = Independent
level_after m (Just Same ∷ ss) = level_after (suc m) ss
level_after m (s ∷ ss) = Carried m

-- no `*` stands before the first `<`
abbrev pub HasLevel : List Sign → Type 0
HasLevel [] = ⊤
HasLevel (Just Less ∷ ss) = ⊤
HasLevel (Just Same ∷ ss) = HasLevel ss
HasLevel _ = ⊥

abbrev pub edge_of : Arc → Edge
edge_of a = record { from = a.from.statement; to = a.to.statement; level = level_after 0 a.signs }

-- V: values of the symbols, on which trips depend; common: how many loops stand round two statements both; references:
-- how many a statement has; Touches v r x c: the reference r of the instance x may name the cell c
module _ {V X : Type 0} (loops_of : ℕ → List ℕ) (common : ℕ → ℕ → ℕ) (trip : V → ℕ → List ℕ → ℕ)
    (references : ℕ → ℕ) (Touches : V → ℕ → Instance → X → Type 0) (t : Shape) where
  abbrev pub IsInstanceAt : V → Instance → Type 0
  IsInstanceAt v x = In x.statement (statements t) × Within (trip v) [] (loops_of x.statement) x.iterations

  abbrev pub IsPlace : Place → Type 0
  IsPlace p = In p.statement (statements t) × (p.reference < references p.statement)

  -- two references, of which at least one is written
  abbrev pub IsCandidate : Candidate → Type 0
  IsCandidate c =
      IsPlace c.from × IsPlace c.to × ((c.from.reference ≡ 0) ⊎ (c.to.reference ≡ 0))
      × (length c.vector ≡ common c.from.statement c.to.statement)
      × MayBegin c.vector c.from.statement c.to.statement

  -- two instances, so related, whose references may name a common cell
  pub record Pair (c : Candidate) : Type 0 where
    pub values : V
    pub first : Instance
    pub second : Instance
    pub cell : X
    pub first_is : IsInstanceAt values first × (first.statement ≡ c.from.statement)
    pub second_is : IsInstanceAt values second × (second.statement ≡ c.to.statement)
    pub related : Related c.vector first.iterations second.iterations
    pub touched : Touches values c.from.reference first cell × Touches values c.to.reference second cell

  -- what orders need of the edges that are listed: each candidate that has a pair stands in one; and each has a level,
  -- and stands for a candidate
  pub record IsComplete (arcs : List Arc) : Type 0 where
    pub covered : (c : Candidate) → IsCandidate c → Pair c → (a : Arc) × In a arcs × StandsFor a c
    pub level : (a : Arc) → In a arcs → HasLevel a.signs
    pub stands : (a : Arc) → In a arcs → (c : Candidate) × IsCandidate c × StandsFor a c

  -- x and y touch a common cell, and one of them by its left side
  abbrev pub Meet : V → Instance → Instance → Type 0
  Meet v x y =
      (p : ℕ) × (q : ℕ) × (c : X) × ((p ≡ 0) ⊎ (q ≡ 0)) × (p < references x.statement) × (q < references y.statement)
      × Touches v p x c × Touches v q y c
