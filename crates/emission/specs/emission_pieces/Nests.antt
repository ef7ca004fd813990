-- The statements of a nest with their loops.
use Rattle.std.specs.Prelude.{ℕ, List, slice_index_or}
use Rattle.nest.specs.Bodies.{Standing, nest_statements}
use Rattle.nest.specs.Plain.{Loop, Nest}
use Rattle.array_form.specs.holds.Statements.{no_statement}

-- the statement that has so many before it in the text
abbrev pub standing_at : Nest → ℕ → Standing
standing_at n s = slice_index_or (nest_statements n) s no_statement

abbrev pub loops_at : Nest → ℕ → List Loop
loops_at n s = (standing_at n s).loops
