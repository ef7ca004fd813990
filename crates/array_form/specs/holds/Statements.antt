-- The statements of a nest by their numbers.
use Rattle.std.specs.Prelude.{ℕ, pos, None, [], slice_index_or}
use Rattle.tree.specs.Plain.{Number, no_subscripts}
use Rattle.nest.specs.Bodies.{Standing, nest_statements, statement_place}
use Rattle.nest.specs.Plain.{Nest}
use Rattle.array_form.specs.forms.Loops.{FormSurroundings}
use Rattle.array_form.specs.holds.Surroundings.{surroundings_of}

-- what stands where there is none
abbrev pub no_statement : Standing
no_statement = record {
  loops = [];
  statement = record {
    line = 0;
    guard = None;
    left = record { name = []; subscripts = no_subscripts };
    right = Number (pos 0);
  };
}

abbrev pub statement_at : Nest → ℕ → Standing
statement_at n number = slice_index_or (nest_statements n) (statement_place number) no_statement

abbrev pub surroundings_at : Nest → ℕ → FormSurroundings
surroundings_at n s = surroundings_of n (statement_at n s).loops
