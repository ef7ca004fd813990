-- What stands behind the loops of a nest.
use Rattle.std.specs.Prelude.{◌≡◌, ⊤, ℕ, ◌≤◌, All, List}
use Rattle.tree.specs.Plain.{Statement, Assignment, If, Arms, no_arms, arm, Block, no_statements, statement}
use Rattle.tree.specs.Plain.{Declaration}
use Rattle.meaning.specs.Reads.{names_in_block}
use Rattle.meaning.specs.Blocks.{Surroundings}
use Rattle.meaning.specs.Profile90.{IsBlock}
use Rattle.rewrite.specs.Profile.{deepest_in}
use Rattle.last_values.specs.normal_forms.NormalLoops.{counter_name}

abbrev IsNothing : Block → Type 0
IsNothing no_statements = ⊤
IsNothing (statement c cs) = ⊥

abbrev HasNoArms : Arms → Type 0
HasNoArms no_arms = ⊤
HasNoArms (arm test body more) = ⊥

-- assignments, and IFs with one arm and no ELSE in which such statements stand
abbrev mutual
  pub IsEnding : Statement → Type 0
  IsEnding (Assignment line mark left right) = ⊤
  IsEnding (If line arms other) = IsEndingArm arms × IsNothing other
  IsEnding _ = ⊥

  pub IsEndingArm : Arms → Type 0
  IsEndingArm no_arms = ⊥
  IsEndingArm (arm test body more) = AreEndings body × HasNoArms more

  pub AreEndings : Block → Type 0
  AreEndings no_statements = ⊤
  AreEndings (statement c cs) = IsEnding c × AreEndings cs

-- it counts no loop
abbrev pub CountsNone : List ℕ → Type 0
CountsNone x = (k : ℕ) → ¬ (x ≡ counter_name k)

-- such statements of the profile, where the loops round the nest have these variables
pub record IsPreparedAfter (es : List Declaration) (around : List (List ℕ)) (deepest : ℕ) (b : Block) : Type 0 where
  pub endings : AreEndings b
  pub names : All CountsNone (names_in_block b)
  pub profile : (w : Surroundings) → w.variables ≡ around → IsBlock es b w
  pub deep : deepest_in b ≤ deepest
