-- The literals of an expression.
use Rattle.std.specs.Prelude.{ℕ, ◌^◌, nat_lt, Bool, false, if◌then◌else◌, Option, Some, None, List}
use Rattle.f90_grammar.specs.Contents.{is_wide_literal}
use Rattle.f90_grammar.specs.Phrases.{value_of_digits}
use Rattle.f90_expressions.specs.Flat.{Node, Digits}

abbrev pub is_wide_node : Node → Bool
is_wide_node (Digits t) = is_wide_literal t
is_wide_node n = false

abbrev pub narrow : ℕ → Option ℕ
narrow n = if nat_lt n (2 ^ 127) then Some n else None

-- the value of a literal, where it is at most 2^127-1
abbrev pub value_in : List ℕ → Option ℕ
value_in t = if is_wide_literal t then None else Some (value_of_digits t)
