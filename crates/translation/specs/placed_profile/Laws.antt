-- Programs with blocks in the place of some loops, by the loops' numbers.
use Rattle.std.specs.Prelude.{◌≡◌, ℕ, Option, Some, List, [], Contains}
use Rattle.tree.specs.Names.{IsSourceName}
use Rattle.tree.specs.Plain.{Block, Program, block}
use Rattle.find_nests.specs.Loops.{SurroundedLoop, as_statement, loops_in_block}
use Rattle.meaning.specs.Blocks.{Surroundings}
use Rattle.meaning.specs.Labels.{all_labels_in, targets_in}
use Rattle.meaning.specs.Dialect.{fortran77}
use Rattle.tree.specs.declared.width.Width.{Width}
use Rattle.meaning.specs.Profile77.{IsProgram77, IsStatement}
use Rattle.meaning.specs.Profile90.{IsBlock, IsProgram90}
use Rattle.translation.specs.loop_placing.Placing.{block_at, placed_in}
use Rattle.find_nests.specs.nest_parts.Numbers.{next_loop_number}
use Rattle.meaning_laws.specs.profiles.Profiles.{AddMadeNames}
use Rattle.translation.specs.placed_profile.Limits.{IsWithinLimits}

-- no label and no jump in it
pub record IsWithoutLabels (b : Block) : Type 0 where
  pub labels : all_labels_in b ≡ []
  pub targets : targets_in b ≡ []

-- the jumps in it lead to labels in it
abbrev pub KeepsJumps : Block → Type 0
KeepsJumps b = (n : ℕ) → Contains (targets_in b) n → Contains (all_labels_in b) n

-- names that FORTRAN 77 has
abbrev pub AreSourceNames : List (List ℕ) → Type 0
AreSourceNames xs = (x : List ℕ) → Contains xs x → IsSourceName x

-- wherever the loop is a statement of p's profile, in loops with variables that FORTRAN 77 has, the block is one of
-- q's; no jump leads out of the loop, and the block has no labels and jumps
pub record SuitsLoop (p q : Program) (l : SurroundedLoop) (b : Block) : Type 0 where
  pub profile : (w : Surroundings) → AreSourceNames w.variables
      → IsStatement p.declarations (as_statement l.loop.loop) w → IsBlock q.declarations b w
  pub loop : KeepsJumps l.loop.loop.body
  pub block : IsWithoutLabels b

-- each block suits the loop with its number
abbrev pub SuitLoops : Program → Program → List (Option Block) → Type 0
SuitLoops p q blocks = (l : SurroundedLoop) (b : Block)
    → Contains (loops_in_block 0 [] p.body) l → block_at blocks (next_loop_number l.loop.before) ≡ Some b
    → SuitsLoop p q l b

abbrev pub PlacedProgramIsProgram : (width : Width) → Type 0
PlacedProgramIsProgram width = (p q : Program) (blocks : List (Option Block))
    → IsProgram77 (fortran77 width) p → AddMadeNames p.declarations q.declarations → q.name ≡ p.name
    → q.body ≡ block (placed_in blocks 0 p.body) → SuitLoops p q blocks → IsWithinLimits q.body
    → IsProgram90 q
