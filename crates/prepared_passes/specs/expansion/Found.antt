-- A nest that is found in a program of FORTRAN 77, with loops from 1 by 1, with masks, with its symbols found anew, its
-- inductions substituted and its scalars renamed, and the expanded one.
use Rattle.std.specs.Prelude.{◌≡◌, ◌⊎◌, ℕ, ◌+◌, ◌<◌, ◌≤◌, ◌^◌, IsSomeAnd, Some, All, Contains, List}
use Rattle.tree.specs.Names.{IsSourceName}
use Rattle.tree.specs.Plain.{Declaration, Program}
use Rattle.tree.specs.declared.ops.Kind.TheVariants.{Logical}
use Rattle.meaning.specs.Blocks.{Surroundings}
use Rattle.meaning.specs.Dialect.{fortran77}
use Rattle.tree.specs.declared.width.Width.{Width}
use Rattle.meaning.specs.Profile77.{IsProgram77, IsStatement}
use Rattle.meaning.specs.Profile90.{AreDeclarations}
use Rattle.meaning.specs.Typed.{declared}
use Rattle.meaning_laws.specs.profiles.Profiles.{AddMadeNames}
use Rattle.find_nests.specs.Found.{InNest, found_in}
use Rattle.find_nests.specs.Laws.{IsFoundNest}
use Rattle.find_nests.specs.Loops.{as_statement}
use Rattle.nest.specs.Bodies.{nest_loops}
use Rattle.nest.specs.Plain.{Loop, Made, Nest}
use Rattle.normal_loops.specs.Normalised.{normalised}
use Rattle.pass_laws.specs.normal_facts.Laws.{IsCounter}
use Rattle.pass_laws.specs.prepared_nests.Made.{extent_for}
use Rattle.pass_laws.specs.prepared_nests.Nests.{IsPrepared}
use Rattle.if_convert.specs.Converted.{converted_nest}
use Rattle.if_convert.specs.Masks.{mask_name}
use Rattle.prepared_passes.specs.conversion.Places.{IsMask}
use Rattle.symbols_anew.specs.Nests.{with_symbols_found}
use Rattle.scalar_expand.specs.Expanded.{expanded}
use Rattle.scalar_expand.specs.Privates.{expanded_name}
use Rattle.scalar_rename.specs.Ranges.{HaveFewRanges, most_ranges, range_name}
use Rattle.prepared_passes.specs.expansion.Before.{before_expansion}
use Rattle.prepared_passes.specs.expansion.Left.{NoPrivateScalarIsLeft}
use Rattle.prepared_passes.specs.expansion.Places.{IsExpandedInPlaces}
use Rattle.prepared_passes.specs.expansion.Unexpanded.{GoesOnAs, substituted, unexpanded, unexpanded_depth}
use Rattle.prepared_passes.specs.renaming.Renamed.{AreNamesDeclared}

-- what passes made for the nest m is declared by its kind and its extents
abbrev pub AreDeclaredAsMade : Program → Nest → Type 0
AreDeclaredAsMade a m = (x : Made) → Contains m.made x
    → declared a.declarations x.name ≡ Some (record { name = x.name; kind = x.kind; extent = extent_for x.extents })

-- expressions rise by at most one
abbrev pub expanded_depth : ℕ
expanded_depth = unexpanded_depth + 1

-- ---- its places

-- The nest k has masks from this number on, in place of what m has. Before expansion the counters of its loops, its
-- masks and the names of ranges are declared, it goes on as the nest with its symbols found anew, and it is expanded in
-- the place of a
pub record IsFoundInPlaces (width : Width) (p a : Program) (m masked k : Nest) (first : ℕ) (around : List
    (List ℕ)) : Type 0 where
  pub counters : All (λ (l : Loop). IsSomeAnd (declared (before_expansion a k).declarations l.variable) IsCounter)
      (nest_loops m)
  pub masks : (i : ℕ) → first ≤ i → i < k.masks
      → IsSomeAnd (declared (before_expansion a k).declarations (mask_name i)) IsMask
  pub names : AreNamesDeclared (before_expansion a k).declarations (substituted m masked)
  pub goes_on : GoesOnAs width p (before_expansion a k) (with_symbols_found m masked) k
  pub places : IsExpandedInPlaces p (before_expansion a k) a around unexpanded_depth expanded_depth k

-- Let k be made of the nest n of p, with loops from 1 by 1, with masks, with its symbols found anew, its inductions
-- substituted and its scalars renamed, of which none has too many ranges. The program a has the names of p, the
-- counters of its loops, what passes made for the expanded nest, and maybe further made names
abbrev pub FoundNestIsExpandedInPlaces : (width : Width) → Type 0
FoundNestIsExpandedInPlaces width = (p a : Program) (n m masked k : Nest) (masks : ℕ) (w : Surroundings)
    (found : IsFoundNest p n) → IsProgram77 (fortran77 width) p → Contains (found_in p) (InNest n)
    → normalised n ≡ Some m → converted_nest masks m ≡ Some masked
    → k ≡ unexpanded m masked → HaveFewRanges (substituted m masked) → k.masks ≤ 2 ^ 32
    → AddMadeNames p.declarations a.declarations
    → All (λ (l : Loop). IsSomeAnd (declared a.declarations l.variable) IsCounter) (nest_loops m)
    → AreDeclaredAsMade a (expanded k) → n.number < 2 ^ 32 → All IsSourceName w.variables
    → IsStatement p.declarations (as_statement found.loop.loop.loop) w
    → IsFoundInPlaces width p a m masked k masks w.variables

-- ---- its declarations

-- declarations by which the expanded nest is prepared, where loops with the variables `around` stand round it
pub record HasExpandedDeclarations (k : Nest) : Type 0 where
  pub declarations : List Declaration
  pub around : List (List ℕ)
  pub are : AreDeclarations declarations
  pub prepared : IsPrepared declarations around expanded_depth (expanded k)

-- there are such ones: those of the program, with the variables of its loops and with what passes made
abbrev pub FoundNestHasExpandedDeclarations : (width : Width) → Type 0
FoundNestHasExpandedDeclarations width = (p : Program) (n m masked k : Nest) (masks : ℕ)
    → IsProgram77 (fortran77 width) p
    → Contains (found_in p) (InNest n) → normalised n ≡ Some m → converted_nest masks m ≡ Some masked
    → k ≡ unexpanded m masked → HaveFewRanges (substituted m masked) → k.masks ≤ 2 ^ 32
    → HasExpandedDeclarations k

-- ---- the names of what is made

-- one of its masks, a scalar or an array
pub record IsMaskOfNest (k : Nest) (masks : ℕ) (x : Made) : Type 0 where
  pub number : ℕ
  pub from : masks ≤ number
  pub below : number < k.masks
  pub name : x.name ≡ mask_name number
  pub kind : x.kind ≡ Logical

-- an array for a scalar of the source, by the number of the nest
pub record IsArrayOfNest (n : Nest) (x : Made) : Type 0 where
  pub scalar : List ℕ
  pub source : IsSourceName scalar
  pub name : x.name ≡ expanded_name n.number scalar

-- a scalar or an array for a range of a scalar of the source, by the number of the nest
pub record IsRangeOfNest (n : Nest) (x : Made) : Type 0 where
  pub scalar : List ℕ
  pub source : IsSourceName scalar
  pub range : ℕ
  pub few : range < most_ranges
  pub name : x.name ≡ range_name n.number scalar range

abbrev pub FoundNestHasMadeNames : (width : Width) → Type 0
FoundNestHasMadeNames width = (p : Program) (n m masked k : Nest) (masks : ℕ) → IsProgram77 (fortran77 width) p
    → Contains (found_in p) (InNest n) → normalised n ≡ Some m → converted_nest masks m ≡ Some masked
    → k ≡ unexpanded m masked → HaveFewRanges (substituted m masked) → k.masks ≤ 2 ^ 32
    → (x : Made) → Contains (expanded k).made x
    → IsMaskOfNest k masks x ⊎ (IsArrayOfNest n x ⊎ IsRangeOfNest n x)

-- nests with numbers of their own have arrays with names of their own
abbrev pub ArrayNamesAreApart : Type 0
ArrayNamesAreApart = (i j : ℕ) (x y : List ℕ) → i < 2 ^ 32 → j < 2 ^ 32 → IsSourceName x → IsSourceName y
    → expanded_name i x ≡ expanded_name j y → (i ≡ j) × (x ≡ y)

-- and names of ranges of their own
abbrev pub RangeNamesAreApart : Type 0
RangeNamesAreApart = (i j : ℕ) (x y : List ℕ) (a b : ℕ) → i < 2 ^ 32 → j < 2 ^ 32 → a < most_ranges → b < most_ranges
    → IsSourceName x → IsSourceName y → range_name i x a ≡ range_name j y b → (i ≡ j) × (x ≡ y) × (a ≡ b)

-- ---- its private scalars

abbrev pub FoundNestHasNoPrivateScalars : (width : Width) → Type 0
FoundNestHasNoPrivateScalars width = (p : Program) (n m masked k : Nest) (masks : ℕ) → IsProgram77 (fortran77 width) p
    → Contains (found_in p) (InNest n) → normalised n ≡ Some m → converted_nest masks m ≡ Some masked
    → k ≡ unexpanded m masked → HaveFewRanges (substituted m masked) → k.masks ≤ 2 ^ 32
    → NoPrivateScalarIsLeft k (expanded k)
