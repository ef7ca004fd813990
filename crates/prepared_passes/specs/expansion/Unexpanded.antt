-- The nest that is expanded: of one with masks the symbols are found anew, inductions are substituted, and scalars are
-- renamed.
use Rattle.std.specs.Prelude.{◌≡◌, ℕ, ◌+◌, ◌<◌, ◌≤◌, ◌^◌, IsSomeAnd, Some, None, All, Contains, List}
use Rattle.tree.specs.Names.{IsSourceName}
use Rattle.tree.specs.Plain.{Declaration, Program}
use Rattle.meaning.specs.Blocks.{Surroundings}
use Rattle.meaning.specs.Dialect.{fortran77}
use Rattle.tree.specs.declared.width.Width.{Width}
use Rattle.meaning.specs.Holding.{HoldsProgram}
use Rattle.meaning.specs.Profile77.{IsProgram77, IsStatement}
use Rattle.meaning.specs.Run.{Going, State, does_all}
use Rattle.meaning.specs.Typed.{declared}
use Rattle.meaning_laws.specs.profiles.Profiles.{AddMadeNames}
use Rattle.linear_forms.specs.Laws.{HoldsSized}
use Rattle.rewrite.specs.Following.{IsSound}
use Rattle.find_nests.specs.Found.{InNest, found_in}
use Rattle.find_nests.specs.Laws.{IsFoundNest}
use Rattle.find_nests.specs.Loops.{as_statement}
use Rattle.nest.specs.Bodies.{nest_loops}
use Rattle.nest.specs.Plain.{Loop, Nest}
use Rattle.nest_steps.specs.Keeping.{GoOnAlike}
use Rattle.normal_loops.specs.Normalised.{normalised}
use Rattle.pass_laws.specs.normal_facts.Laws.{IsCounter}
use Rattle.pass_laws.specs.prepared_nests.Laws.{normal_depth}
use Rattle.pass_laws.specs.prepared_nests.Nests.{IsPrepared}
use Rattle.pass_laws.specs.prepared_runs.Running.{loops_then_after}
use Rattle.if_convert.specs.Converted.{converted_nest}
use Rattle.if_convert.specs.Masks.{mask_name}
use Rattle.symbols_anew.specs.Nests.{with_symbols_found}
use Rattle.inductions.specs.Found.{inductions_of}
use Rattle.inductions.specs.Laws.{IsWrittenNowhere}
use Rattle.inductions.specs.Nests.{induction_names, inductions_substituted}
use Rattle.scalar_rename.specs.Ranges.{HaveFewRanges}
use Rattle.scalar_rename.specs.Renamed.{renamed}
use Rattle.scalar_expand.specs.Expanded.{expanded}
use Rattle.prepared_passes.specs.conversion.Places.{IsMask}
use Rattle.prepared_passes.specs.expansion.Laws.{MayBeExpanded}
use Rattle.prepared_passes.specs.expansion.Runs.{IsFreeBehind}
use Rattle.prepared_passes.specs.renaming.Renamed.{AreNamesDeclared}
use Rattle.prepared_passes.specs.substitution.Behind.{IsApartBehind}

-- of the nest `masked`, with masks in place of what m has
abbrev pub substituted : Nest → Nest → Nest
substituted m masked = inductions_substituted (with_symbols_found m masked)

abbrev pub unexpanded : Nest → Nest → Nest
unexpanded m masked = renamed (substituted m masked)

-- canonical text by all symbols is at most 18 deeper, and by inductions at most 23 more
abbrev pub unexpanded_depth : ℕ
unexpanded_depth = (normal_depth + 18) + 23

-- ---- no induction is written any more

abbrev pub UnexpandedNestWritesNoInduction : (width : Width) → Type 0
UnexpandedNestWritesNoInduction width = (p : Program) (n m masked k : Nest) (masks : ℕ)
    → IsProgram77 (fortran77 width) p
    → Contains (found_in p) (InNest n) → normalised n ≡ Some m → converted_nest masks m ≡ Some masked
    → k ≡ unexpanded m masked → HaveFewRanges (substituted m masked) → k.masks ≤ 2 ^ 32
    → All (IsWrittenNowhere (expanded k)) (induction_names (inductions_of (with_symbols_found m masked)))

-- ---- runs

-- Where the loops of the nest n with what comes after them meet no fault in a program b, neither do those of k, and
-- they come to moments that agree on p
abbrev pub GoesOnAs : (width : Width) → Program → Program → Nest → Nest → Type 0
GoesOnAs width p b n k = (s : State) → s.way ≡ Going → HoldsProgram (fortran77 width) b s.store → HoldsSized s.store
    → IsSound (does_all (fortran77 width) None (loops_then_after n) s).way
    → GoOnAlike p (does_all (fortran77 width) None (loops_then_after n) s) (does_all (fortran77 width) None
    (loops_then_after k) s)

-- What is known of the nest k, made of the nest `masked` of a program b that has masks and names of ranges as scalars
pub record IsUnexpandedIn (width : Width) (p b : Program) (m masked k : Nest) (around : List (List ℕ)) : Type 0 where
  pub prepared : IsPrepared b.declarations around unexpanded_depth k
  pub may : MayBeExpanded b.declarations k
  pub free : IsFreeBehind k
  pub goes_on : GoesOnAs width p b (with_symbols_found m masked) k

-- Let n be a nest of p, m with loops from 1 by 1, and `masked` with masks. The declarations ds have the names of p, the
-- variables of its loops, and maybe further made names, but no masks; b has the masks and the names of ranges, too
abbrev pub FoundNestIsUnexpanded : (width : Width) → Type 0
FoundNestIsUnexpanded width = (p b : Program) (n m masked k : Nest) (ds : List Declaration) (masks : ℕ)
    (w : Surroundings) (found : IsFoundNest p n) → IsProgram77 (fortran77 width) p → Contains (found_in p) (InNest n)
    → normalised n ≡ Some m → converted_nest masks m ≡ Some masked
    → k ≡ unexpanded m masked → HaveFewRanges (substituted m masked) → k.masks ≤ 2 ^ 32
    → AddMadeNames p.declarations ds → ((i : ℕ) → declared ds (mask_name i) ≡ None)
    → All (λ (l : Loop). IsSomeAnd (declared ds l.variable) IsCounter) (nest_loops m)
    → AddMadeNames p.declarations b.declarations
    → ((i : ℕ) → masks ≤ i → i < k.masks → IsSomeAnd (declared b.declarations (mask_name i)) IsMask)
    → All (λ (l : Loop). IsSomeAnd (declared b.declarations l.variable) IsCounter) (nest_loops m)
    → AreNamesDeclared b.declarations (substituted m masked)
    → n.number < 2 ^ 32 → All IsSourceName w.variables
    → IsStatement p.declarations (as_statement found.loop.loop.loop) w
    → IsUnexpandedIn width p b m masked k w.variables

-- No induction of the nest with its symbols found anew stands behind its loops, and no symbol of it gets a value there
abbrev pub FoundNestIsApartBehind : (width : Width) → Type 0
FoundNestIsApartBehind width = (p : Program) (n m masked : Nest) (ds es : List Declaration) (masks : ℕ)
    (w : Surroundings)
    (found : IsFoundNest p n) → IsProgram77 (fortran77 width) p → Contains (found_in p) (InNest n)
    → normalised n ≡ Some m → converted_nest masks m ≡ Some masked → masked.masks ≤ 2 ^ 32
    → AddMadeNames p.declarations ds → ((i : ℕ) → declared ds (mask_name i) ≡ None)
    → All (λ (l : Loop). IsSomeAnd (declared ds l.variable) IsCounter) (nest_loops m)
    → AddMadeNames p.declarations es
    → ((i : ℕ) → masks ≤ i → i < masked.masks → IsSomeAnd (declared es (mask_name i)) IsMask)
    → All (λ (l : Loop). IsSomeAnd (declared es l.variable) IsCounter) (nest_loops m)
    → n.number < 2 ^ 32 → All IsSourceName w.variables
    → IsStatement p.declarations (as_statement found.loop.loop.loop) w
    → IsApartBehind (with_symbols_found m masked)
