-- Lists of names in byte order, and declarations with the numbers that they can hold.
use Rattle.std.specs.Prelude.{◌≡◌, ℕ, ◌<◌, ℤ, pos, false, if◌then◌else◌, List, [], ◌∷◌, map, length}
use Rattle.std.specs.List.{AllByRecursion, filter, fold}
use Rattle.std.specs.Cmp.Lexicographic.{slice_cmp}
use Rattle.std.specs.Ordering.{nat_cmp, is_lt}
use Rattle.tree.specs.Operators.{fits}
use Rattle.tree.specs.declared.programs.Decl.{Decl}
use Rattle.tree.specs.declared.programs.Extent.{Extent as Extent'}
use Rattle.tree.specs.declared.programs.Extent.TheVariants.{Scalar, Fixed, Later as Later'}
use Rattle.tree.specs.Plain.{Expression, Extent, Given, Later, Declaration}
use Rattle.meaning.specs.Store.{Store}
use Rattle.f77_grammar.specs.Statement77.{Labelled}
use Rattle.f77_grammar.specs.program.Limits.{dimension_of}
use Rattle.f77_grammar.specs.program.Uses.{Use77, is_variable}
use Rattle.f77_grammar.specs.program.Tree.{with_name, program_variables_of, bounds_or_empty, declaration_of_name}
use Rattle.f77_names.specs.declared.names.Names.{Names}
use Rattle.meaning.specs.Dialect.{fortran77}
use Rattle.tree.specs.declared.width.Width.{Width}
use Rattle.f77_names.specs.NameFacts.{facts_in, facts_of, nothing_known}

-- the first of these names, if there is one, doesn't come before y
abbrev pub Follows : List ℕ → List (List ℕ) → Type 0
Follows y [] = Unit {0}
Follows y (z ∷ zs) = is_lt (slice_cmp nat_cmp z y) ≡ false

-- no name comes before the one that stands before it
abbrev pub Ascends : List (List ℕ) → Type 0
Ascends [] = Unit {0}
Ascends (y ∷ ys) = Follows y ys × Ascends ys

-- the table has what the uses say of each name
pub record AreFacts (names : Names) (us : List Use77) : Type 0 where
  pub facts : (x : List ℕ) → facts_in names x ≡ facts_of nothing_known us x

-- the variables that stand in these uses
abbrev pub variables_from : List Use77 → List Use77 → List (List ℕ)
variables_from us vs = fold (λ names x. with_name x names) [] (filter (is_variable us) (map (λ (u : Use77). u.name) vs))

-- a number of 64 bits, and 0 for another one
abbrev pub narrowed : ℤ → ℤ
narrowed z = if fits 63 z then z else pos 0

abbrev pub narrow : ℤ × ℤ → ℤ × ℤ
narrow b = (narrowed b.0, narrowed b.1)

abbrev pub narrow_extent : Extent → Extent
narrow_extent (Given bs) = Given (map narrow bs)
narrow_extent (Later n) = Later n

abbrev pub narrow_declaration : Declaration → Declaration
narrow_declaration d = record { name = d.name; kind = d.kind; extent = narrow_extent d.extent }

-- the numbers of each of these bounds; 1 and 0 where one faults
abbrev pub dimensions : (width : Width) → Store → List (Expression × Expression) → List (ℤ × ℤ)
dimensions width s bs = map (λ b. bounds_or_empty (dimension_of (fortran77 width) s b)) bs

-- these variables with their declarations
abbrev pub narrow_declarations : (width : Width) → List Use77 → Store → List Labelled → List (List ℕ) → List Declaration
narrow_declarations width us s text xs =
    map (λ x. narrow_declaration (declaration_of_name (fortran77 width) us s text x)) xs

-- an array of fixed bounds has at least one dimension
abbrev pub HasDimensions : Extent' → Type 0
HasDimensions Scalar = Unit {0}
HasDimensions (Fixed dims) = 0 < length dims
HasDimensions (Later' n) = Unit {0}

abbrev pub HaveDimensions : List Decl → Type 0
HaveDimensions ds = AllByRecursion (λ (d : Decl). HasDimensions d.extent) ds

-- the declarations of a program
abbrev pub all_declarations : (width : Width) → List Use77 → Store → List Labelled → List Declaration
all_declarations width us s text = map (declaration_of_name (fortran77 width) us s text) (program_variables_of us)
