-- The statements and the nests whose holds can be asked for.
use Rattle.std.specs.Prelude.{ℕ, ◌≤◌, ◌<◌, ◌^◌, All, length}
use Rattle.nest.specs.Bodies.{Standing, nest_statements}
use Rattle.nest.specs.Plain.{Nest}
use Rattle.array_form.specs.holds.Statements.{statement_at}

-- There is a statement with this number, in at most 7 loops, and symbols have places of 16 bits
pub record IsPlainStatement (n : Nest) (s : ℕ) : Type 0 where
  pub from_one : 1 ≤ s
  pub place : s ≤ length (nest_statements n)
  pub few_loops : length (statement_at n s).loops ≤ 7
  pub symbols : length n.symbols ≤ 2 ^ 16

abbrev pub HasFewLoops : Standing → Type 0
HasFewLoops x = length x.loops ≤ 7

-- so is each statement, and their numbers are of 32 bits
pub record IsPlainNest (n : Nest) : Type 0 where
  pub few : length (nest_statements n) < 2 ^ 32
  pub few_loops : All HasFewLoops (nest_statements n)
  pub symbols : length n.symbols ≤ 2 ^ 16
