-- What stands in a nest, in the order of the text.
use Rattle.std.specs.Prelude.{ℕ, ◌+◌, ◌-◌, List, [], ◌∷◌, ◌++◌}
use Rattle.nest.specs.Plain.{Loop, Guarded, Part, Run, Turns, Choice, Label, Jump, Parts, no_parts, part}
use Rattle.nest.specs.Plain.{Branches, no_branches, branch, Nest}

-- a statement with the loops round it, from the outside in
pub record Standing : Type 0 where
  pub loops : List Loop
  pub statement : Guarded

-- under these loops
abbrev mutual
  pub statements_in : List Loop → Part → List Standing
  statements_in ls (Run s) = record { loops = ls; statement = s } ∷ []
  statements_in ls (Turns l ps) = statements_in_parts (ls ++ l ∷ []) ps
  statements_in ls (Choice bs ps) = statements_in_branches ls bs ++ statements_in_parts ls ps
  statements_in ls (Label n) = []
  statements_in ls (Jump n) = []

  pub statements_in_parts : List Loop → Parts → List Standing
  statements_in_parts ls no_parts = []
  statements_in_parts ls (part p ps) = statements_in ls p ++ statements_in_parts ls ps

  pub statements_in_branches : List Loop → Branches → List Standing
  statements_in_branches ls no_branches = []
  statements_in_branches ls (branch test ps bs) = statements_in_parts ls ps ++ statements_in_branches ls bs

abbrev pub statements_of : Part → List Standing
statements_of p = statements_in [] p

-- the loops, each one before those in it
abbrev mutual
  pub loops_of : Part → List Loop
  loops_of (Run s) = []
  loops_of (Turns l ps) = l ∷ loops_in_parts ps
  loops_of (Choice bs ps) = loops_in_branches bs ++ loops_in_parts ps
  loops_of (Label n) = []
  loops_of (Jump n) = []

  pub loops_in_parts : Parts → List Loop
  loops_in_parts no_parts = []
  loops_in_parts (part p ps) = loops_of p ++ loops_in_parts ps

  pub loops_in_branches : Branches → List Loop
  loops_in_branches no_branches = []
  loops_in_branches (branch test ps bs) = loops_in_parts ps ++ loops_in_branches bs

abbrev pub nest_statements : Nest → List Standing
nest_statements n = statements_of n.body

-- A statement goes by its place among those of the nest, which counts from 0. Where it is shown, in marks, holds and
-- lists, it has its number, which counts from 1
abbrev pub statement_number : ℕ → ℕ
statement_number place = place + 1

abbrev pub statement_place : ℕ → ℕ
statement_place number = number - 1

abbrev pub nest_loops : Nest → List Loop
nest_loops n = loops_of n.body
