-- Programs that are the same but for the numbers of their lines and their marks.
use Rattle.std.specs.Prelude.{◌≡◌, Option, None, ℕ, List}
use Rattle.tree.specs.Plain.{Statement, Assignment, Where, If, Do, Label, GoTo, Stop, Read, Print, Allocate}
use Rattle.tree.specs.Plain.{Deallocate, Arms, no_arms, arm, Block, no_statements, statement, Program}
use Rattle.meaning.specs.Run.{State, Way, Failed, run}
use Rattle.meaning.specs.Sequential.{EndsWell}
use Rattle.meaning.specs.Dialect.{Dialect}

-- a statement with 0 as the number of each line, and without marks; the number in a Label or a GoTo isn't that of a
-- line
abbrev mutual
  pub without_lines : Statement → Statement
  without_lines (Assignment line mark left right) = Assignment 0 None left right
  without_lines (Where line mark m left right) = Where 0 None m left right
  without_lines (If line arms other) = If 0 (arms_without_lines arms) (block_without_lines other)
  without_lines (Do line x first last step body) = Do 0 x first last step (block_without_lines body)
  without_lines (Label n) = Label n
  without_lines (GoTo line n) = GoTo 0 n
  without_lines (Stop line) = Stop 0
  without_lines (Read line is) = Read 0 is
  without_lines (Print line is) = Print 0 is
  without_lines (Allocate line x es) = Allocate 0 x es
  without_lines (Deallocate line x) = Deallocate 0 x

  pub arms_without_lines : Arms → Arms
  arms_without_lines no_arms = no_arms
  arms_without_lines (arm test body arms) = arm test (block_without_lines body) (arms_without_lines arms)

  pub block_without_lines : Block → Block
  block_without_lines no_statements = no_statements
  block_without_lines (statement c cs) = statement (without_lines c) (block_without_lines cs)

-- the names of the two programs may differ too
pub record SameButLines (p q : Program) : Type 0 where
  pub declarations : p.declarations ≡ q.declarations
  pub body : block_without_lines p.body ≡ block_without_lines q.body

abbrev pub way_without_line : Way → Way
way_without_line (Failed fault line) = Failed fault 0
way_without_line way = way

-- two moments that differ at most in the line of a fault
pub record AlikeButLine (s t : State) : Type 0 where
  pub store : s.store ≡ t.store
  pub written : s.written ≡ t.written
  pub input : s.input ≡ t.input
  pub steps : s.steps ≡ t.steps
  pub way : way_without_line s.way ≡ way_without_line t.way

-- the run doesn't look at the numbers of lines nor at marks
abbrev pub Relined : Type 0
Relined = (lang : Dialect) (limit : Option ℕ) (p q : Program) (input : List ℕ)
    → SameButLines p q → AlikeButLine (run lang limit p input) (run lang limit q input)

abbrev pub RelinedEndsWell : Type 0
RelinedEndsWell = (s t : State) → AlikeButLine s t → EndsWell s → EndsWell t
