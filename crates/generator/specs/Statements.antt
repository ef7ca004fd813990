-- The statements of a deck, `X(I+p) = Y(I+s) + v`.
use Rattle.std.specs.Prelude.{ℕ, List, ◌++◌, codes, decimal, ◌==◌, if◌then◌else◌}
use Rattle.generator.specs.declared.draws.DrawnStatement.{DrawnStatement}
use Rattle.generator.specs.Draws.{state_after, drawn}

-- the five draws behind the state x give X, p, Y, s and v, in this order
abbrev pub drawn_statement : ℕ → DrawnStatement
drawn_statement x = record {
  to = drawn (state_after 1 x) 3;
  to_shift = drawn (state_after 2 x) 5;
  from = drawn (state_after 3 x) 3;
  from_shift = drawn (state_after 4 x) 5;
  added = drawn (state_after 5 x) 10;
}

-- ---- its text

abbrev pub drawn_array_name : ℕ → List ℕ
drawn_array_name n = if n == 0 then codes "A" else if n == 1 then codes "B" else codes "C"

unfoldable pub reference_text : ℕ → ℕ → List ℕ
reference_text array shift = drawn_array_name array ++ codes "(I+" ++ decimal shift ++ codes ")"

unfoldable pub statement_text : DrawnStatement → List ℕ
statement_text s =
    codes "      " ++ reference_text s.to s.to_shift ++ codes " = " ++ reference_text s.from s.from_shift
    ++ codes " + " ++ decimal s.added ++ codes "\n"
