-- Scalars that have become symbols of a nest, since a pass has left out the statements that gave them values.
use Rattle.std.specs.Prelude.{ℕ, Bool, not, ◌&&◌, List, ◌++◌, map}
use Rattle.std.specs.List.{filter}
use Rattle.meaning.specs.Names.{is_among}
use Rattle.nest.specs.Bodies.{Standing, nest_statements}
use Rattle.nest.specs.Plain.{Nest}
use Rattle.nest_reasons.specs.Symbols.{is_integer_scalar}
use Rattle.tree.specs.Plain.{Declaration}

-- the names that its statements give values to
abbrev pub names_assigned : Nest → List (List ℕ)
names_assigned n = map (λ (s : Standing). s.statement.left.name) (nest_statements n)

-- its symbols so far, and what its statements give values to
abbrev pub known_names : Nest → List (List ℕ)
known_names n = n.symbols ++ names_assigned n

-- an INTEGER scalar that is one of the first names, and none of the second ones
abbrev pub is_new : List (List ℕ) → List (List ℕ) → Declaration → Bool
is_new before known d = is_integer_scalar d && (is_among before d.name && not (is_among known d.name))

-- The INTEGER scalars that the nest n gave values to, and that m, which a pass has made of it, gives none to; they
-- aren't among the symbols of m so far
abbrev pub new_symbols : Nest → Nest → List (List ℕ)
new_symbols n m =
    map (λ (d : Declaration). d.name) (filter (is_new (names_assigned n) (known_names m)) m.declarations)
