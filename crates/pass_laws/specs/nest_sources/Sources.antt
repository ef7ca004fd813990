-- The statements of a nest beside those of its loop in the program.
use Rattle.std.specs.Prelude.{◌≡◌, ℕ, Bool, true, false, ◌&&◌}
use Rattle.tree.specs.Plain.{Statement, Assignment, Where, If, Do, Label, GoTo, Stop, Read, Print, Allocate}
use Rattle.tree.specs.Plain.{Deallocate, Arms, no_arms, arm, Block, no_statements, statement}
use Rattle.meaning.specs.Relined.{without_lines, block_without_lines}
use Rattle.nest_reasons.specs.Increments.{step_of}
use Rattle.nest.specs.Plain.{parts}
use Rattle.nest.specs.Blocks.{numeral, statement_of_part, block_of_parts}
use Rattle.find_nests.specs.nest_parts.Statements.{step_or_zero, parts_of_block}
use Rattle.find_nests.specs.Loops.{Numbered, as_statement}
use Rattle.find_nests.specs.Found.{body_of}

-- assignments, loops, IFs, labels and jumps alone
abbrev mutual
  pub may_stand : Statement → Bool
  may_stand (Assignment line mark left right) = true
  may_stand (Where line mark mask left right) = false
  may_stand (If line arms other) = arms_may_stand arms && block_may_stand other
  may_stand (Do line x a b c body) = block_may_stand body
  may_stand (Label n) = true
  may_stand (GoTo line n) = true
  may_stand (Stop line) = false
  may_stand (Read line is) = false
  may_stand (Print line is) = false
  may_stand (Allocate line x es) = false
  may_stand (Deallocate line x) = false

  pub arms_may_stand : Arms → Bool
  arms_may_stand no_arms = true
  arms_may_stand (arm test body arms) = block_may_stand body && arms_may_stand arms

  pub block_may_stand : Block → Bool
  block_may_stand no_statements = true
  block_may_stand (statement c cs) = may_stand c && block_may_stand cs

-- each increment as the number that it is
abbrev mutual
  pub with_numbers : Statement → Statement
  with_numbers (Assignment line mark left right) = Assignment line mark left right
  with_numbers (Where line mark mask left right) = Where line mark mask left right
  with_numbers (If line arms other) = If line (arms_with_numbers arms) (block_with_numbers other)
  with_numbers (Do line x a b c body) = Do line x a b (numeral (step_or_zero (step_of c))) (block_with_numbers body)
  with_numbers (Label n) = Label n
  with_numbers (GoTo line n) = GoTo line n
  with_numbers (Stop line) = Stop line
  with_numbers (Read line is) = Read line is
  with_numbers (Print line is) = Print line is
  with_numbers (Allocate line x es) = Allocate line x es
  with_numbers (Deallocate line x) = Deallocate line x

  pub arms_with_numbers : Arms → Arms
  arms_with_numbers no_arms = no_arms
  arms_with_numbers (arm test body arms) = arm test (block_with_numbers body) (arms_with_numbers arms)

  pub block_with_numbers : Block → Block
  block_with_numbers no_statements = no_statements
  block_with_numbers (statement c cs) = statement (with_numbers c) (block_with_numbers cs)

-- The parts of a block stand for its statements, but for line numbers, marks and the texts of increments
abbrev pub PartsAreStatements : Type 0
PartsAreStatements = (line k : ℕ) (b : Block) → block_may_stand b ≡ true
    → block_without_lines (block_of_parts line (parts (parts_of_block k b)))
    ≡ block_without_lines (block_with_numbers b)

-- so does the body of a nest for its loop
abbrev pub NestIsLoop : Type 0
NestIsLoop = (line : ℕ) (l : Numbered) → block_may_stand l.loop.body ≡ true
    → without_lines (statement_of_part line (body_of l)) ≡ without_lines (with_numbers (as_statement l.loop))
