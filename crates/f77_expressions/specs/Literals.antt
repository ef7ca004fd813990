-- A literal's value while its digits are read.
use Rattle.std.specs.Prelude.{ℕ, ◌+◌, ◌-◌, ◌*◌, ◌^◌, ◌≡◌, ◌<◌, ◌≤◌, List, fold, Option, Some, None, option_and_then}
use Rattle.f77_grammar.specs.expressions.Squeezing.{Symbol77}
use Rattle.f77_grammar.specs.expressions.Spelling.{value}
use Rattle.reading.specs.Characters.{is_digit}
use Rattle.f77_expressions.specs.Fronts.{narrow}
use Rattle.f77_expressions.specs.Lexing.{run_of}

abbrev pub value_after : ℕ → List ℕ → ℕ
value_after n digits = fold (λ n c. 10 * n + (c - 48)) n digits

-- the value of the digits that were read, or none where it is above 2^127-1, while a rest is left
abbrev pub IsSoFar : Option ℕ → List Symbol77 → List Symbol77 → Type 0
IsSoFar None text rest = 2 ^ 127 ≤ value (run_of is_digit text).front
IsSoFar (Some n) text rest = (n < 2 ^ 127)
    × (value (run_of is_digit text).front ≡ value_after n (run_of is_digit rest).front)

abbrev pub with_digit : Option ℕ → ℕ → Option ℕ
with_digit v c = option_and_then (λ n. narrow (10 * n + (c - 48))) v
