-- The meaning of what stands in the place of a nest.
use Rattle.std.specs.Prelude.{◌≡◌, Some, All, IsSomeAnd, Contains}
use Rattle.tree.specs.Plain.{Block, Program}
use Rattle.emission.specs.emission_pieces.Pieces.{Pieces, translation}
use Rattle.find_nests.specs.Found.{InNest, found_in}
use Rattle.find_nests.specs.Laws.{IsFoundNest}
use Rattle.find_nests.specs.Loops.{as_statement}
use Rattle.meaning.specs.Reads.{names_in_block}
use Rattle.meaning.specs.Blocks.{Surroundings}
use Rattle.meaning.specs.Dialect.{fortran77}
use Rattle.tree.specs.declared.width.Width.{Width}
use Rattle.meaning.specs.Profile77.{IsProgram77}
use Rattle.meaning.specs.Profile90.{IsBlock}
use Rattle.meaning.specs.Store.{names_of}
use Rattle.meaning.specs.Typed.{declared}
use Rattle.nest.specs.Bodies.{nest_loops}
use Rattle.nest.specs.Plain.{Loop, Made, Nest}
use Rattle.pass_laws.specs.normal_facts.Laws.{IsCounter}
use Rattle.pass_laws.specs.prepared_runs.Running.{ArePiecesOf}
use Rattle.pass_laws.specs.prepared_runs.Unlabelled.{HasNoLabel}
use Rattle.listing.specs.declared.programs.counts.Counts.{Counts}
use Rattle.listing.specs.programs.Passed.{IsPassedAs}
use Rattle.translation.specs.made_declarations.Declaring.{declaration_of_made}
use Rattle.translation.specs.placed_loops.Beside.{DoesAs}
use Rattle.meaning_laws.specs.profiles.Profiles.{AddMadeNames}

-- b is what is emitted, by a graph and all holds, for the nest m that the passes make of n, after so much
pub record IsTranslatedNest (n m : Nest) (b : Block) : Type 0 where
  pub counts : Counts
  pub passed : IsPassedAs counts n m
  pub pieces : Pieces
  pub are : ArePiecesOf m pieces
  pub block : b ≡ translation m pieces

-- what passes made for the nest m is declared so
abbrev pub AreMadeDeclared : Program → Nest → Type 0
AreMadeDeclared r m = (a : Made) → Contains m.made a
    → declared r.declarations a.name ≡ Some (declaration_of_made a)

-- p is a program of FORTRAN 77 with the nest n. q has its names and those of the block b, which is one of q's profile,
-- and r the counters of the nest's loops and what passes made for it besides: q needn't have all of them, since a loop
-- may have become array assignments
abbrev pub TranslationDoesAsLoop : (width : Width) → Type 0
TranslationDoesAsLoop width = (p q r : Program) (n m : Nest) (b : Block) (w : Surroundings) (found : IsFoundNest p n)
    → IsProgram77 (fortran77 width) p → Contains (found_in p) (InNest n)
    → AddMadeNames p.declarations q.declarations → AddMadeNames q.declarations r.declarations
    → (translated : IsTranslatedNest n m b)
    → All (λ (l : Loop). IsSomeAnd (declared r.declarations l.variable) IsCounter)
    (nest_loops translated.passed.normal)
    → AreMadeDeclared r m → All (Contains (names_of q)) (names_in_block b) → IsBlock q.declarations b w
    → DoesAs width p q (as_statement found.loop.loop.loop) b × HasNoLabel b
