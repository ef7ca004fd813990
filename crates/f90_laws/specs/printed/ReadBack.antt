-- Programs that are the same but for the numbers of their lines.
use Rattle.std.specs.Prelude.{◌≡◌}
use Rattle.tree.specs.Plain.{Statement, Assignment, Where, If, Do, Label, GoTo, Stop, Read, Print, Allocate, Deallocate}
use Rattle.tree.specs.Plain.{Arms, no_arms, arm, Block, no_statements, statement, Program}

-- ---- programs that are the same but for the numbers of their lines

-- a statement with 0 as the number of each line; its marks stay. The number in a Label or a GoTo isn't that of a line
abbrev mutual
  pub without_numbers : Statement → Statement
  without_numbers (Assignment line mark left right) = Assignment 0 mark left right
  without_numbers (Where line mark m left right) = Where 0 mark m left right
  without_numbers (If line arms other) = If 0 (arms_without_numbers arms) (block_without_numbers other)
  without_numbers (Do line x first last step body) = Do 0 x first last step (block_without_numbers body)
  without_numbers (Label n) = Label n
  without_numbers (GoTo line n) = GoTo 0 n
  without_numbers (Stop line) = Stop 0
  without_numbers (Read line is) = Read 0 is
  without_numbers (Print line is) = Print 0 is
  without_numbers (Allocate line x es) = Allocate 0 x es
  without_numbers (Deallocate line x) = Deallocate 0 x

  pub arms_without_numbers : Arms → Arms
  arms_without_numbers no_arms = no_arms
  arms_without_numbers (arm test body arms) = arm test (block_without_numbers body) (arms_without_numbers arms)

  pub block_without_numbers : Block → Block
  block_without_numbers no_statements = no_statements
  block_without_numbers (statement c cs) = statement (without_numbers c) (block_without_numbers cs)

-- the names of the two programs may differ too
pub record SameButNumbers (p q : Program) : Type 0 where
  pub declarations : p.declarations ≡ q.declarations
  pub body : block_without_numbers p.body ≡ block_without_numbers q.body
