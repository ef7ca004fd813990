-- Nests that differ in their symbols, and in the texts of their statements.
use Rattle.std.specs.Prelude.{◌≡◌, ◌⊎◌, ℕ, None, List, map}
use Rattle.nest.specs.Bodies.{Standing, nest_loops, nest_statements}
use Rattle.nest.specs.Plain.{Loop, Nest}
use Rattle.nest_order.specs.orders.Lists.{In}
use Rattle.symbols_anew.specs.Found.{names_assigned}

abbrev pub without_trip : Loop → Loop
without_trip l = record l { trip = None }

-- The nest m is n but for its symbols and its body. Its loops are those of n but for the places of symbols in trips,
-- and its statements give values to names that those of n give values to. Its symbols are those of n, and maybe names
-- that the nest `before` gave values to
pub record IsSameButText (before n m : Nest) : Type 0 where
  pub rest : m ≡ record n { symbols = m.symbols; body = m.body }
  pub loops : map without_trip (nest_loops m) ≡ map without_trip (nest_loops n)
  pub assigned : (x : Standing) → In x (nest_statements m) → In x.statement.left.name (names_assigned n)
  pub kept : (y : List ℕ) → In y n.symbols → In y m.symbols
  pub new : (y : List ℕ) → In y m.symbols → In y n.symbols ⊎ In y (names_assigned before)
