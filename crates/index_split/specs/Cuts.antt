-- Nests of one loop.
use Rattle.std.specs.Prelude.{Bool, true, false, ◌&&◌, if◌then◌else◌, Option, Some, None}
use Rattle.nest.specs.Plain.{Choice, Jump, Label, Loop, Part, Parts, Run, Turns, no_parts, part}

abbrev pub is_statement : Part → Bool
is_statement (Run s) = true
is_statement (Turns l ps) = false
is_statement (Choice bs ps) = false
is_statement (Label n) = false
is_statement (Jump n) = false

abbrev pub are_statements : Parts → Bool
are_statements no_parts = true
are_statements (part p ps) = is_statement p && are_statements ps

-- the loop that the part is, if it is one
abbrev pub outermost : Part → Option Loop
outermost (Run s) = None
outermost (Turns l ps) = Some l
outermost (Choice bs ps) = None
outermost (Label n) = None
outermost (Jump n) = None

-- that of a loop round statements alone
abbrev pub only_loop : Part → Option Loop
only_loop (Run s) = None
only_loop (Turns l ps) = if are_statements ps then Some l else None
only_loop (Choice bs ps) = None
only_loop (Label n) = None
only_loop (Jump n) = None
