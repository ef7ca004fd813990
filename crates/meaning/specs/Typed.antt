-- Words for the kinds of what stands in a program's tree (ANSI X3.9-1978, sections 5.1, 6 and 12.8.2).
use Rattle.std.specs.Prelude.{ℕ, ◌+◌, ◌^◌, ◌<◌, ◌≤◌, ℤ, pos, negsuc, Bool, true, false, Option, None, Some}
use Rattle.std.specs.Prelude.{if◌then◌else◌, List, [], ◌∷◌, length}
use Rattle.std.specs.Str.{bytes_eq}
use Rattle.std.specs.List.{AllByRecursion}
use Rattle.tree.specs.Plain.{Expressions, no_expressions, expression, Subscripts, no_subscripts, subscript, Items}
use Rattle.tree.specs.Plain.{no_items, item, Extent, Given, Later, Declaration}

-- ---- numbers of parts

abbrev pub number_of_arguments : Expressions → ℕ
number_of_arguments no_expressions = 0
number_of_arguments (expression e es) = 1 + number_of_arguments es

abbrev pub number_of_subscripts : Subscripts → ℕ
number_of_subscripts no_subscripts = 0
number_of_subscripts (subscript p ps) = 1 + number_of_subscripts ps

-- ---- declarations

-- the bounds that a declaration gives
abbrev pub dimensions : Extent → List (ℤ × ℤ)
dimensions (Given bs) = bs
dimensions (Later n) = []

-- how many dimensions a name has
abbrev pub rank_of_extent : Extent → ℕ
rank_of_extent (Given bs) = length bs
rank_of_extent (Later n) = n

abbrev pub declared : List Declaration → List ℕ → Option Declaration
declared [] x = None
declared (d ∷ ds) x = if bytes_eq d.name x then Some d else declared ds x

-- ---- literals, constants and lists

-- a literal isn't negative, and at most 2^127 - 1
abbrev pub IsLiteral : ℤ → Type 0
IsLiteral (pos k) = k < 2 ^ 127
IsLiteral (negsuc k) = ⊥

-- an implied DO list isn't empty
abbrev pub has_item : Items → Bool
has_item no_items = false
has_item (item i is) = true

-- a constant of an output list has at least one character, and characters alone that a line may hold
abbrev pub IsText : List ℕ → Type 0
IsText [] = ⊥
IsText (c ∷ cs) = AllByRecursion (λ b. (32 ≤ b) × (b ≤ 126)) (c ∷ cs)
