-- Where jumps lead (ANSI X3.9-1978, section 11.1): forwards, to a label later in the same block or in one round it.
use Rattle.std.specs.Prelude.{Option, ℕ, List, [], ◌++◌, IsSome, Contains}
use Rattle.tree.specs.Plain.{Statement, If, Do, GoTo, Arms, no_arms, arm, Block, no_statements, statement, Program}
use Rattle.meaning.specs.Blocks.{labels_of}
use Rattle.meaning.specs.Run.{run}
use Rattle.meaning.specs.Sequential.{ending}
use Rattle.meaning.specs.Dialect.{Dialect}

-- each GO TO within a statement names a label after it, in a block round it; `later` has those after the statement
abbrev mutual
  pub JumpsForward : List ℕ → Statement → Type 0
  JumpsForward later (GoTo line n) = Contains later n
  JumpsForward later (If line arms other) = ArmsJumpForward later arms × BlockJumpsForward later other
  JumpsForward later (Do line x first last step body) = BlockJumpsForward later body
  JumpsForward later _ = Unit {0}

  pub ArmsJumpForward : List ℕ → Arms → Type 0
  ArmsJumpForward later no_arms = Unit {0}
  ArmsJumpForward later (arm test body arms) = BlockJumpsForward later body × ArmsJumpForward later arms

  pub BlockJumpsForward : List ℕ → Block → Type 0
  BlockJumpsForward later no_statements = Unit {0}
  BlockJumpsForward later (statement c cs) = JumpsForward (labels_of cs ++ later) c × BlockJumpsForward later cs

abbrev pub AllJumpsForward : Program → Type 0
AllJumpsForward p = BlockJumpsForward [] p.body

-- the run of such a program has an ending: no jump leaves the program
abbrev pub EveryRunEnds : Type 0
EveryRunEnds = (lang : Dialect) (limit : Option ℕ) (p : Program) (input : List ℕ) → AllJumpsForward p
    → IsSome (ending (run lang limit p input))
