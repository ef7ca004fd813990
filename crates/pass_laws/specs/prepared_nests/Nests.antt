-- Nests that passes are given and make: loops from 1 by 1 with linear trips, in which assignments of scalars stand in
-- canonical text, by declarations that have all names that passes made.
use Rattle.std.specs.Prelude.{◌≡◌, ℕ, ◌≤◌, ◌<◌, ◌^◌, nat_abs, Some, IfSome, IsSomeAnd, All, Contains, List, [], length}
use Rattle.tree.specs.Names.{IsSourceName}
use Rattle.tree.specs.Plain.{Declaration}
use Rattle.meaning.specs.Labels.{IsLine}
use Rattle.meaning.specs.Holding.{HasBounds}
use Rattle.meaning.specs.Names.{IsInByteOrder}
use Rattle.meaning.specs.Typed.{declared}
use Rattle.components.specs.Lists.{Distinct}
use Rattle.nest.specs.Bodies.{Standing, nest_loops, nest_statements}
use Rattle.nest.specs.Plain.{Made, Nest}
use Rattle.nest_order.specs.runs.Stores.{Setting}
use Rattle.nest_order.specs.runs.Touched.{nth_of}
use Rattle.nest_order.specs.shapes.Shapes.{IsPlain}
use Rattle.pass_laws.specs.branch_meaning.Jumps.{JumpsAhead}
use Rattle.pass_laws.specs.normal_facts.Laws.{IsCounter}
use Rattle.pass_laws.specs.ready_nests.Distinct.{numbers_of}
use Rattle.pass_laws.specs.prepared_nests.After.{IsPreparedAfter}
use Rattle.pass_laws.specs.prepared_nests.Branches.{IsPreparedTest, tests_under}
use Rattle.pass_laws.specs.prepared_nests.Loops.{EachLoop, IsPreparedLoop}
use Rattle.pass_laws.specs.prepared_nests.Made.{AreBoundsBy, IsPreparedMade}
use Rattle.pass_laws.specs.prepared_nests.Statements.{IsPreparedStatement, made_names}

-- an INTEGER scalar with a name of the source
pub record IsPreparedSymbol (es : List Declaration) (x : List ℕ) : Type 0 where
  pub name : IsSourceName x
  pub scalar : IsSomeAnd (declared es x) IsCounter

-- ---- nests

-- The parts of the nest m by the declarations es, where loops with the variables `around` stand round it, and no
-- expression is deeper than `deepest`
pub record AreMadeParts (es : List Declaration) (around : List (List ℕ)) (deepest : ℕ) (m : Nest) : Type 0 where
  pub line : IsLine m.line
  pub number : m.number < 2 ^ 32
  pub symbols : All (IsPreparedSymbol es) m.symbols
  pub ordered : IsInByteOrder m.symbols
  pub few : length m.symbols ≤ 1000
  pub loops : EachLoop (IsPreparedLoop es m.symbols) [] m.body
  pub once : Distinct (numbers_of (nest_loops m))
  pub statements : All (IsPreparedStatement es m deepest) (nest_statements m)
  pub made : All (IsPreparedMade es m.symbols deepest) m.made
  pub made_once : Distinct (made_names m)
  pub after : IsPreparedAfter es around deepest m.after
  -- the loops round it are of the source, and their variables aren't written
  pub source : All IsSourceName around
  pub outside : All (λ (x : Standing). ¬ Contains around x.statement.left.name) (nest_statements m)

-- with IFs and with jumps that lead ahead
pub record IsBranched (es : List Declaration) (around : List (List ℕ)) (deepest : ℕ) (m : Nest) : Type 0 where
  pub parts : AreMadeParts es around deepest m
  pub tests : All (IsPreparedTest es m.symbols deepest) (tests_under [] m.body)
  pub jumps : JumpsAhead [] m.body

-- of loops and statements alone
pub record IsPrepared (es : List Declaration) (around : List (List ℕ)) (deepest : ℕ) (m : Nest) : Type 0 where
  pub plain : IsPlain m.body
  pub parts : AreMadeParts es around deepest m

-- ---- settings

-- It has these declarations; names have bounds as they are declared, made arrays are allocated by their extents, and
-- symbols are numbers of 64 bits
pub record IsSettingFor (es : List Declaration) (m : Nest) (w : Setting) : Type 0 where
  pub declarations : w.program.declarations ≡ es
  pub bounds : (x : List ℕ) → IfSome (declared es x) (λ (d : Declaration). HasBounds d.extent (w.bounds x))
  pub made : All (λ (a : Made). IsSomeAnd (w.bounds a.name) (AreBoundsBy m.symbols w.values a.extents)) m.made
  pub values : (k : ℕ) (x : List ℕ) → nth_of m.symbols k ≡ Some x → nat_abs (w.values k) ≤ 2 ^ 63
