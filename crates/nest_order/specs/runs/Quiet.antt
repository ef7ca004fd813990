-- Statements that read and write no lines.
use Rattle.std.specs.Prelude.{◌≡◌, ⊤, Option, Some, ℕ, List}
use Rattle.tree.specs.Plain.{Statement, If, Do, Read, Print, Arms, no_arms, arm, Block, no_statements, statement}
use Rattle.meaning.specs.Dialect.{Dialect}
use Rattle.meaning.specs.Run.{State, does_all}
use Rattle.nest_order.specs.orders.Shapes.{Shape, Shapes}
use Rattle.nest_order.specs.runs.Blocks.{Layout, written_in}
use Rattle.nest_order.specs.runs.Nests.{RunNest}

-- no READ and no PRINT stands in them
abbrev mutual
  pub IsQuiet : Statement → Type 0
  IsQuiet (Read line is) = ⊥
  IsQuiet (Print line is) = ⊥
  IsQuiet (If line arms other) = AreQuietArms arms × AreQuiet other
  IsQuiet (Do line x first last step body) = AreQuiet body
  IsQuiet _ = ⊤

  pub AreQuietArms : Arms → Type 0
  AreQuietArms no_arms = ⊤
  AreQuietArms (arm test body arms) = AreQuiet body × AreQuietArms arms

  pub AreQuiet : Block → Type 0
  AreQuiet no_statements = ⊤
  AreQuiet (statement c cs) = IsQuiet c × AreQuiet cs

-- the same has been written, the same input is left, and READ has had the same
pub record SameLines (s t : State) : Type 0 where
  pub written : t.written ≡ s.written
  pub input : t.input ≡ s.input
  pub had_value : t.had_value ≡ s.had_value

abbrev pub QuietStatementsKeepLines : Type 0
QuietStatementsKeepLines = (lang : Dialect) (limit : Option ℕ) (cs : Block) (s : State)
    → AreQuiet cs → SameLines s (does_all lang limit cs s)

-- of such are nests, and what is emitted for them where the forms in it are
abbrev pub NestsAreQuiet : Type 0
NestsAreQuiet = (n : RunNest) (y : Layout) (form : List ℕ → Shape → Option Statement) (round : List ℕ) (ts : Shapes)
    → ((outer : List ℕ) (t : Shape) (c : Statement) → form outer t ≡ Some c → IsQuiet c)
    → AreQuiet (written_in n y form round ts)
