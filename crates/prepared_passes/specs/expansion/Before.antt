-- The program in which a nest stands before private scalars become arrays.
use Rattle.std.specs.Prelude.{ℕ, if◌then◌else◌, List, [], map}
use Rattle.tree.specs.Plain.{Declaration, Given, Program}
use Rattle.nest.specs.Plain.{Nest}
use Rattle.nest.specs.statement_loops.Names.{is_among}
use Rattle.pass_laws.specs.prepared_nests.Statements.{made_names}

-- a scalar of the same kind, where the name is one of these
abbrev pub scalar_where_named : List (List ℕ) → Declaration → Declaration
scalar_where_named xs d = if is_among xs d.name then record d { extent = Given [] } else d

-- The program a declares what passes made for the nest m and for the expanded one. Before expansion what was made for m
-- are scalars; the arrays that come with it stand in no statement of m, and stay declared
abbrev pub before_expansion : Program → Nest → Program
before_expansion a m = record a { declarations = map (scalar_where_named (made_names m)) a.declarations }
