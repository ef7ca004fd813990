-- The marked statements of a program in which the nests that are listed with a graph are vectorised.
use Rattle.std.specs.Prelude.{◌≡◌, ◌<◌, ◌≤◌, ⊤, ℕ, Option, None, Some, List, [], ◌++◌, map, length, Contains}
use Rattle.tree.specs.Plain.{Statement, Assignment, Where, If, Do, Arms, no_arms, arm, Block, no_statements, statement}
use Rattle.tree.specs.declared.stmts.Mark.{Mark}
use Rattle.components.specs.Lists.{Distinct}
use Rattle.emission.specs.emission_marks.Components.{IsLevel}
use Rattle.emission.specs.emission_marks.ByGraph.{AreMarked, AreTogether}
use Rattle.emission.specs.emission_marks.Marks.{Marked, Round, marked_at, marked_in}
use Rattle.nest.specs.Allocations.{block_then, allocations_then, deallocations}
use Rattle.nest.specs.Bodies.{nest_statements}
use Rattle.nest.specs.Plain.{Nest}
use Rattle.array_form.specs.holds.Holds.{all_holds}
use Rattle.listing.specs.programs.Listing.{ListedNest}
use Rattle.translation.specs.loop_numbers.Numbers.{loop_number}
use Rattle.translation.specs.loop_placing.Placing.{block_at}

-- ---- one statement

-- within these loops and conditions
abbrev pub within : List Round → Marked → Marked
within outer x = record { round = outer ++ x.round; mark = x.mark; statement = x.statement }

-- the nest and the statement whose mark it bears
abbrev pub mark_numbers_of : Marked → ℕ × ℕ
mark_numbers_of x = (x.mark.nest, x.mark.stmt)

-- without the number of its line
abbrev pub without_line_number : Statement → Statement
without_line_number (Assignment line mark left right) = Assignment 0 mark left right
without_line_number (Where line mark mask left right) = Where 0 mark mask left right
without_line_number c = c

abbrev pub without_line : Marked → Marked
without_line x = record { round = x.round; mark = x.mark; statement = without_line_number x.statement }

-- x is the statement s of the nest, as its level has it, on any line and within what stands round the nest: an array
-- statement from the least level on at which s is alone, within the loops before that level
pub record IsAtLevel (t : ListedNest) (s : ℕ) (x : Marked) : Type 0 where
  pub level : ℕ
  pub is_level : IsLevel t.normal t.graph.edges (all_holds t.normal) s level
  pub outer : List Round
  pub is : without_line x ≡ without_line (within outer (marked_at t.normal s level))

-- ---- all of a program

pub record IsOfNests (ts : List ListedNest) (x : Marked) : Type 0 where
  pub nest : ListedNest
  pub among : Contains ts nest
  pub statement : ℕ
  pub there : statement < length (nest_statements nest.normal)
  pub at : IsAtLevel nest statement x

pub record StandsMarked (body : Block) (t : ListedNest) (s : ℕ) : Type 0 where
  pub it : Marked
  pub stands : Contains (marked_in [] body) it
  pub at : IsAtLevel t s it

-- Each statement of these nests is marked in the program, as its level has it; nothing else is, and no two statements
-- bear one mark
pub record AreOfNests (ts : List ListedNest) (body : Block) : Type 0 where
  pub only : (x : Marked) → Contains (marked_in [] body) x → IsOfNests ts x
  pub each : (t : ListedNest) (s : ℕ) → Contains ts t → s < length (nest_statements t.normal) → StandsMarked body t s
  pub once : Distinct (map mark_numbers_of (marked_in [] body))

-- ---- what stands in the place of each nest

abbrev pub HasMark : Option Mark → Type 0
HasMark None = ⊥
HasMark (Some m) = ⊤

-- loops, conditions and marked assignments alone
abbrev mutual
  pub IsMarkedThroughout : Statement → Type 0
  IsMarkedThroughout (Assignment line mark left right) = HasMark mark
  IsMarkedThroughout (Where line mark mask left right) = HasMark mark
  IsMarkedThroughout (If line arms other) = ArmsAreMarkedThroughout arms × AreMarkedThroughout other
  IsMarkedThroughout (Do line x first last step body) = AreMarkedThroughout body
  IsMarkedThroughout c = ⊥

  pub ArmsAreMarkedThroughout : Arms → Type 0
  ArmsAreMarkedThroughout no_arms = ⊤
  ArmsAreMarkedThroughout (arm test body arms) = AreMarkedThroughout body × ArmsAreMarkedThroughout arms

  pub AreMarkedThroughout : Block → Type 0
  AreMarkedThroughout no_statements = ⊤
  AreMarkedThroughout (statement c cs) = IsMarkedThroughout c × AreMarkedThroughout cs

-- these statements, and behind them what comes after the nest; its arrays are allocated before, and deallocated behind
abbrev pub with_after : Nest → Block → Block
with_after n core =
    allocations_then n.line n.made (block_then core (block_then n.after (deallocations n.line n.made)))

-- In the place of the nest's loops it has nothing but marked statements, as the nest's graph and all its holds have
-- them, and two of them stand in one loop of a level exactly where they are in one component there
pub record IsMarkedByGraph (t : ListedNest) (b : Block) : Type 0 where
  pub number : t.normal.number ≡ t.found.number
  pub core : Block
  pub throughout : AreMarkedThroughout core
  pub is : b ≡ with_after t.normal core
  pub marked : AreMarked t.normal t.graph.edges (all_holds t.normal) (marked_in [] b)
  pub together : AreTogether t.normal t.graph.edges b

pub record HasBlock (blocks : List (Option Block)) (t : ListedNest) : Type 0 where
  pub block : Block
  pub there : block_at blocks (loop_number t.found) ≡ Some block
  pub marked : IsMarkedByGraph t block

-- the nest whose outermost loop has this number
pub record IsNumbered (ts : List ListedNest) (k : ℕ) : Type 0 where
  pub nest : ListedNest
  pub among : Contains ts nest
  pub number : loop_number nest.found ≡ k

-- in the place of each nest's outermost loop, and of no other, stands such a block; loops are numbered from 1
pub record AreBlocksOf (ts : List ListedNest) (blocks : List (Option Block)) : Type 0 where
  pub only : (k : ℕ) (b : Block) → 1 ≤ k → block_at blocks k ≡ Some b → IsNumbered ts k
  pub each : (t : ListedNest) → Contains ts t → HasBlock blocks t

-- the body is marked as these nests are listed, and so are the blocks in it
pub record IsMarkedAsListed (ts : List ListedNest) (blocks : List (Option Block)) (body : Block) : Type 0 where
  pub in_place : AreBlocksOf ts blocks
  pub marks : AreOfNests ts body
