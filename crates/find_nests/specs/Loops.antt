-- The loops of a statement and of a block, in the order of the text, each with the loops round it.
use Rattle.std.specs.Prelude.{ℕ, List, [], ◌∷◌, ◌++◌}
use Rattle.tree.specs.Plain.{Expression, Statement, Assignment, Where, If, Do, Label, GoTo, Stop, Read, Print, Allocate}
use Rattle.tree.specs.Plain.{Deallocate, Arms, no_arms, arm, Block, no_statements, statement}
use Rattle.find_nests.specs.nest_parts.Numbers.{next_loop_number, number_after, after_arms, after_block}

pub record SourceLoop : Type 0 where
  pub line : ℕ
  pub variable : List ℕ
  pub first : Expression
  pub last : Expression
  pub step : Expression
  pub body : Block

abbrev pub as_statement : SourceLoop → Statement
as_statement l = Do l.line l.variable l.first l.last l.step l.body

-- a loop with the number of the last loop before it
pub record Numbered : Type 0 where
  pub before : ℕ
  pub loop : SourceLoop

-- a loop with the loops round it, from the outside in
pub record SurroundedLoop : Type 0 where
  pub around : List SourceLoop
  pub loop : Numbered

-- each loop before those in it, by the number of the last loop before
abbrev mutual
  pub loops_in : ℕ → List SourceLoop → Statement → List SurroundedLoop
  loops_in k around (Assignment line mark left right) = []
  loops_in k around (Where line mark mask left right) = []
  loops_in k around (If line arms other) =
      loops_in_arms k around arms ++ loops_in_block (after_arms k arms) around other
  loops_in k around (Do line x a b c body) =
      let l : SourceLoop = record { line = line; variable = x; first = a; last = b; step = c; body = body } in
      record { around = around; loop = record { before = k; loop = l } }
      ∷ loops_in_block (next_loop_number k) (around ++ l ∷ []) body
  loops_in k around (Label n) = []
  loops_in k around (GoTo line n) = []
  loops_in k around (Stop line) = []
  loops_in k around (Read line is) = []
  loops_in k around (Print line is) = []
  loops_in k around (Allocate line x es) = []
  loops_in k around (Deallocate line x) = []

  pub loops_in_arms : ℕ → List SourceLoop → Arms → List SurroundedLoop
  loops_in_arms k around no_arms = []
  loops_in_arms k around (arm test body arms) =
      loops_in_block k around body ++ loops_in_arms (after_block k body) around arms

  pub loops_in_block : ℕ → List SourceLoop → Block → List SurroundedLoop
  loops_in_block k around no_statements = []
  loops_in_block k around (statement c cs) = loops_in k around c ++ loops_in_block (number_after k c) around cs
