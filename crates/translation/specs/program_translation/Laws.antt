-- The meaning of a program with translations in the place of its nests.
use Rattle.std.specs.Prelude.{◌≡◌, ℕ, Option, Some, All, List, [], IsSomeAnd, Contains}
use Rattle.tree.specs.Plain.{Block, Declaration, Program, block}
use Rattle.find_nests.specs.Found.{InNest, found_in}
use Rattle.find_nests.specs.Laws.{IsFoundNest}
use Rattle.find_nests.specs.Loops.{SurroundedLoop, loops_in_block}
use Rattle.meaning.specs.Reads.{names_in_block}
use Rattle.meaning.specs.Blocks.{Surroundings}
use Rattle.meaning.specs.Dialect.{fortran77}
use Rattle.meaning.specs.Profile77.{IsProgram77}
use Rattle.meaning.specs.Profile90.{IsBlock, IsProgram90}
use Rattle.meaning.specs.Store.{names_of}
use Rattle.meaning.specs.Typed.{declared}
use Rattle.translation.specs.loop_placing.Placing.{block_at, placed_in}
use Rattle.translation.specs.nest_blocks.Blocks.{AreNestBlocks}
use Rattle.translation.specs.placed_profile.Limits.{IsWithinLimits}
use Rattle.translation.specs.program_translation.Translated.{IsPlacedBy}
use Rattle.find_nests.specs.nest_parts.Numbers.{next_loop_number}
use Rattle.translation.specs.nest_translation.Laws.{AreMadeDeclared, IsTranslatedNest}
use Rattle.nest.specs.Bodies.{nest_loops}
use Rattle.nest.specs.Plain.{Loop, Nest}
use Rattle.pass_laws.specs.normal_facts.Laws.{IsCounter}
use Rattle.meaning.specs.Keeping.{KeepsMeaning}
use Rattle.tree.specs.declared.width.Width.{Width}
use Rattle.meaning_laws.specs.profiles.Profiles.{AddMadeNames}

-- The block is a translation of the nest that the loop is, over names of q, and one of q's profile; r has the counters,
-- and what passes made
pub record IsTranslationOf (p q r : Program) (l : SurroundedLoop) (b : Block) : Type 0 where
  pub nest : Nest
  pub among : Contains (found_in p) (InNest nest)
  pub found : IsFoundNest p nest
  pub is_loop : found.loop ≡ l
  pub normal : Nest
  pub translated : IsTranslatedNest nest normal b
  pub counters : All (λ (m : Loop). IsSomeAnd (declared r.declarations m.variable) IsCounter)
      (nest_loops translated.passed.normal)
  pub made : AreMadeDeclared r normal
  pub names : All (Contains (names_of q)) (names_in_block b)
  pub surroundings : Surroundings
  pub profile : IsBlock q.declarations b surroundings

-- each block stands for the loop with its number
abbrev pub AreTranslations : Program → Program → Program → List (Option Block) → Type 0
AreTranslations p q r blocks = (l : SurroundedLoop) (b : Block)
    → Contains (loops_in_block 0 [] p.body) l → block_at blocks (next_loop_number l.loop.before) ≡ Some b
    → IsTranslationOf p q r l b

abbrev pub TranslationKeepsMeaning : (width : Width) → Type 0
TranslationKeepsMeaning width = (p q r : Program) (blocks : List (Option Block)) (input : List ℕ)
    → IsProgram77 (fortran77 width) p → IsProgram90 q
    → AddMadeNames p.declarations q.declarations → AddMadeNames q.declarations r.declarations
    → AreTranslations p q r blocks → q.body ≡ block (placed_in blocks 0 p.body)
    → KeepsMeaning width p q input

-- ---- what answers put in the place of loops

-- a translation within these limits is a program of Fortran 90 that keeps the meaning of its source
pub record IsGoodTranslation (width : Width) (p q : Program) : Type 0 where
  pub program : IsProgram90 q
  pub keeps : (input : List ℕ) → KeepsMeaning width p q input

-- where what was emitted for the nests of p stands in their place
abbrev pub TranslationIsGood : (width : Width) → Type 0
TranslationIsGood width = (p q : Program) (blocks : List (Option Block)) (made : List Declaration)
    → IsProgram77 (fortran77 width) p
    → AreNestBlocks p blocks made → IsPlacedBy p blocks made q → IsWithinLimits q.body → IsGoodTranslation width p q
