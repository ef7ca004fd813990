-- What stands in the place of a nest, as a block of the profile.
use Rattle.std.specs.Prelude.{◌^◌, ◌<◌, All, IsSomeAnd, Contains, codes}
use Rattle.tree.specs.Plain.{Block, Program}
use Rattle.find_nests.specs.Found.{InNest, found_in}
use Rattle.find_nests.specs.Laws.{IsFoundNest}
use Rattle.find_nests.specs.Loops.{as_statement}
use Rattle.meaning.specs.Blocks.{Surroundings}
use Rattle.meaning.specs.Dialect.{fortran77}
use Rattle.tree.specs.declared.width.Width.{Width}
use Rattle.meaning.specs.Profile77.{IsProgram77, IsStatement}
use Rattle.meaning.specs.Profile90.{IsBlock}
use Rattle.meaning.specs.Typed.{declared}
use Rattle.meaning.specs.Typed90.{IsFree}
use Rattle.translation.specs.nest_translation.Laws.{AreMadeDeclared, IsTranslatedNest}
use Rattle.nest.specs.Bodies.{nest_loops}
use Rattle.nest.specs.Plain.{Loop, Nest}
use Rattle.pass_laws.specs.normal_facts.Laws.{IsCounter}
use Rattle.translation.specs.placed_profile.Laws.{AreSourceNames}
use Rattle.meaning_laws.specs.profiles.Profiles.{AddMadeNames}

-- r has the names of p, the counters of the nest's loops and what passes made for it, and none that hides a function of
-- array forms; the loops round the nest have variables that FORTRAN 77 has; marks have numbers of 32 bits
abbrev pub TranslationIsOfProfile : (width : Width) → Type 0
TranslationIsOfProfile width = (p r : Program) (n m : Nest) (b : Block) (w : Surroundings) (found : IsFoundNest p n)
    → IsProgram77 (fortran77 width) p → Contains (found_in p) (InNest n) → AddMadeNames p.declarations r.declarations
    → (translated : IsTranslatedNest n m b)
    → All (λ (l : Loop). IsSomeAnd (declared r.declarations l.variable) IsCounter)
    (nest_loops translated.passed.normal)
    → AreMadeDeclared r m → IsFree r.declarations (codes "TRANSPOSE") → IsFree r.declarations (codes "RESHAPE")
    → n.number < 2 ^ 32 → AreSourceNames w.variables
    → IsStatement p.declarations (as_statement found.loop.loop.loop) w
    → IsBlock r.declarations b w
