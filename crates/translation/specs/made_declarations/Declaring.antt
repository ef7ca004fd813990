-- Declarations of made names among those of a program, in byte order.
use Rattle.std.specs.Prelude.{ℕ, ◌==◌, if◌then◌else◌, Option, Some, None, List, [], ◌∷◌}
use Rattle.std.specs.Cmp.Lexicographic.{slice_cmp}
use Rattle.std.specs.Ordering.{nat_cmp}
use Rattle.std.specs.declared.cmp.Ordering.{Ordering}
use Rattle.std.specs.declared.cmp.Ordering.TheVariants.{Less, Equal, Greater}
use Rattle.meaning.specs.Typed.{declared}
use Rattle.nest.specs.Plain.{Made}
use Rattle.pass_laws.specs.prepared_nests.Made.{extent_for}
use Rattle.tree.specs.Plain.{Declaration, Extent, Given, Later}
use Rattle.tree.specs.declared.ops.Kind.TheVariants.{Integer}
use Rattle.translation.specs.declared.made_declarations.names.MadeName.{MadeName}

-- ---- one name

abbrev pub integer_scalar : List ℕ → Declaration
integer_scalar x = record { name = x; kind = Integer; extent = Given [] }

-- of a name that a pass made, by its kind and its extents
abbrev pub declaration_of_made : Made → Declaration
declaration_of_made a = record { name = a.name; kind = a.kind; extent = extent_for a.extents }

-- a scalar, or an array of so many dimensions that is allocated later
abbrev pub extent_of : ℕ → Extent
extent_of n = if n == 0 then Given [] else Later n

abbrev pub declaration_of_name : MadeName → Declaration
declaration_of_name m = record { name = m.name; kind = m.kind; extent = extent_of m.dimensions }

abbrev pub or_integer_scalar : List ℕ → Option Declaration → Declaration
or_integer_scalar x None = integer_scalar x
or_integer_scalar x (Some d) = d

-- a name that passes made is declared as they made it; any other made name counts a loop
abbrev pub declaration_by : List Declaration → List ℕ → Declaration
declaration_by made x = or_integer_scalar x (declared made x)

-- ---- all of them

-- by where a name stands to that of the first declaration, whose later ones are these, and these with the new one
abbrev pub placed_by : Ordering → Declaration → Declaration → List Declaration → List Declaration → List Declaration
placed_by Less n d ds behind = n ∷ d ∷ ds
placed_by Equal n d ds behind = d ∷ ds
placed_by Greater n d ds behind = d ∷ behind

-- before the first declaration with a later name; a name that is declared stays as it is
abbrev pub with_declaration : List Declaration → Declaration → List Declaration
with_declaration [] n = n ∷ []
with_declaration (d ∷ ds) n = placed_by (slice_cmp nat_cmp n.name d.name) n d ds (with_declaration ds n)

-- one after the other
abbrev pub with_declarations : List Declaration → List Declaration → List Declaration
with_declarations ds [] = ds
with_declarations ds (n ∷ ns) = with_declarations (with_declaration ds n) ns
