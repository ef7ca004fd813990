-- What stands behind the loops of a nest that is found, where masks stand for its IFs and jumps.
use Rattle.std.specs.Prelude.{◌≡◌, ℕ, ◌<◌, ◌≤◌, ◌^◌, IsSomeAnd, Some, None, All, Contains, List}
use Rattle.tree.specs.Names.{IsSourceName}
use Rattle.tree.specs.Plain.{Declaration, Program}
use Rattle.meaning.specs.Blocks.{Surroundings}
use Rattle.meaning.specs.Dialect.{fortran77}
use Rattle.tree.specs.declared.width.Width.{Width}
use Rattle.meaning.specs.Profile77.{IsProgram77, IsStatement}
use Rattle.meaning.specs.Typed.{declared}
use Rattle.meaning_laws.specs.profiles.Profiles.{AddMadeNames}
use Rattle.find_nests.specs.Found.{InNest, found_in}
use Rattle.find_nests.specs.Laws.{IsFoundNest}
use Rattle.find_nests.specs.Loops.{as_statement}
use Rattle.nest.specs.Bodies.{nest_loops}
use Rattle.nest.specs.Plain.{Loop, Nest}
use Rattle.normal_loops.specs.Normalised.{normalised}
use Rattle.pass_laws.specs.normal_facts.Laws.{IsCounter}
use Rattle.if_convert.specs.Converted.{converted_nest}
use Rattle.if_convert.specs.Masks.{mask_name}
use Rattle.prepared_passes.specs.conversion.Places.{IsMask}
use Rattle.prepared_passes.specs.expansion.Laws.{MayBeExpanded}
use Rattle.prepared_passes.specs.expansion.Runs.{IsFreeBehind}

-- Let k be made of the nest n of p, with loops from 1 by 1 and with masks. The declarations ds have the names of p, the
-- variables of its loops, and maybe further made names, but no masks; es has the masks, too. Behind the loops of k
-- stand last values of variables of the source alone, and none of these is a private scalar of k
abbrev pub FoundNestIsFreeBehind : (width : Width) → Type 0
FoundNestIsFreeBehind width = (p : Program) (n m k : Nest) (ds es : List Declaration) (masks : ℕ) (w : Surroundings)
    (found : IsFoundNest p n) → IsProgram77 (fortran77 width) p → Contains (found_in p) (InNest n)
    → normalised n ≡ Some m → converted_nest masks m ≡ Some k → k.masks ≤ 2 ^ 32
    → AddMadeNames p.declarations ds → ((i : ℕ) → declared ds (mask_name i) ≡ None)
    → All (λ (l : Loop). IsSomeAnd (declared ds l.variable) IsCounter) (nest_loops m)
    → AddMadeNames p.declarations es
    → ((i : ℕ) → masks ≤ i → i < k.masks → IsSomeAnd (declared es (mask_name i)) IsMask)
    → All (λ (l : Loop). IsSomeAnd (declared es l.variable) IsCounter) (nest_loops m)
    → n.number < 2 ^ 32 → All IsSourceName w.variables
    → IsStatement p.declarations (as_statement found.loop.loop.loop) w
    → MayBeExpanded es k → IsFreeBehind k
