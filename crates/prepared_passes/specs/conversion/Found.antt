-- A program of FORTRAN 77, and the nests that are found in it, with loops from 1 by 1.
use Rattle.std.specs.Prelude.{◌≡◌, ℕ, ◌<◌, ◌≤◌, ◌^◌, IsSomeAnd, Some, None, All, Contains, List}
use Rattle.tree.specs.Names.{IsSourceName}
use Rattle.tree.specs.Plain.{Declaration, Program}
use Rattle.meaning.specs.Blocks.{Surroundings}
use Rattle.meaning.specs.Dialect.{fortran77}
use Rattle.tree.specs.declared.width.Width.{Width}
use Rattle.meaning.specs.Profile77.{IsProgram77, IsStatement}
use Rattle.find_nests.specs.Found.{InNest, found_in}
use Rattle.find_nests.specs.Laws.{IsFoundNest}
use Rattle.find_nests.specs.Loops.{as_statement}
use Rattle.meaning.specs.Profile90.{AreDeclarations}
use Rattle.meaning.specs.Store.{names_of}
use Rattle.meaning.specs.Typed.{declared}
use Rattle.meaning_laws.specs.profiles.Profiles.{AddMadeNames}
use Rattle.normal_loops.specs.Normalised.{normalised}
use Rattle.nest.specs.Bodies.{nest_loops}
use Rattle.nest.specs.Plain.{Loop, Nest}
use Rattle.pass_laws.specs.normal_facts.Laws.{IsCounter}
use Rattle.pass_laws.specs.prepared_nests.Laws.{normal_depth}
use Rattle.pass_laws.specs.prepared_nests.Nests.{IsPrepared}
use Rattle.if_convert.specs.Converted.{converted_nest}
use Rattle.if_convert.specs.Masks.{mask_name}
use Rattle.prepared_passes.specs.conversion.Branching.{IsBranching, IsUnguarded}
use Rattle.prepared_passes.specs.conversion.Places.{IsMask}

abbrev pub FoundNestIsUnguarded : (width : Width) → Type 0
FoundNestIsUnguarded width = (p : Program) (n m : Nest) → IsProgram77 (fortran77 width) p
    → Contains (found_in p) (InNest n)
    → normalised n ≡ Some m → IsUnguarded m.body

abbrev pub ProgramHasNoMasks : (width : Width) → Type 0
ProgramHasNoMasks width = (p : Program) (i : ℕ) → IsProgram77 (fortran77 width) p
    → ¬ Contains (names_of p) (mask_name i)

-- So masks may be made for the normal form of a nest that is found, and it is prepared with them. The declarations ds
-- have the names of p, the variables of its loops, and maybe further made names, but no masks; es has the masks, too
abbrev pub FoundNestIsConverted : (width : Width) → Type 0
FoundNestIsConverted width = (p : Program) (n m k : Nest) (ds es : List Declaration) (masks : ℕ) (w : Surroundings)
    (found : IsFoundNest p n) → IsProgram77 (fortran77 width) p → Contains (found_in p) (InNest n)
    → normalised n ≡ Some m → converted_nest masks m ≡ Some k → k.masks ≤ 2 ^ 32
    → AddMadeNames p.declarations ds → ((i : ℕ) → declared ds (mask_name i) ≡ None)
    → All (λ (l : Loop). IsSomeAnd (declared ds l.variable) IsCounter) (nest_loops m)
    → AddMadeNames p.declarations es
    → ((i : ℕ) → masks ≤ i → i < k.masks → IsSomeAnd (declared es (mask_name i)) IsMask)
    → All (λ (l : Loop). IsSomeAnd (declared es l.variable) IsCounter) (nest_loops m)
    → n.number < 2 ^ 32 → All IsSourceName w.variables
    → IsStatement p.declarations (as_statement found.loop.loop.loop) w
    → IsBranching m × IsPrepared es w.variables normal_depth k

-- declarations by which the nest is prepared, where loops with the variables `around` stand round it
pub record HasDeclarations (m : Nest) : Type 0 where
  pub declarations : List Declaration
  pub around : List (List ℕ)
  pub are : AreDeclarations declarations
  pub prepared : IsPrepared declarations around normal_depth m

-- there are such ones: those of the program, with the variables of its loops and with masks
abbrev pub FoundNestHasDeclarations : (width : Width) → Type 0
FoundNestHasDeclarations width = (p : Program) (n m k : Nest) (masks : ℕ) → IsProgram77 (fortran77 width) p
    → Contains (found_in p) (InNest n) → normalised n ≡ Some m → converted_nest masks m ≡ Some k → k.masks ≤ 2 ^ 32
    → HasDeclarations k
