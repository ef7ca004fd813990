-- What stands in the blocks of a program: blocks in one another, the number of statements, what stands round each.
use Rattle.std.specs.Prelude.{ℕ, ◌+◌, max, List, [], ◌∷◌, ◌++◌}
use Rattle.tree.specs.Plain.{Statement, Assignment, Where, If, Do, Label, GoTo, Stop, Read, Print, Allocate, Deallocate}
use Rattle.tree.specs.Plain.{Arms, no_arms, arm, Block, no_statements, statement}

-- ---- labels

-- the label that a statement is, if it is one
abbrev pub label_of : Statement → List ℕ
label_of (Label n) = n ∷ []
label_of _ = []

-- the labels that stand in a block itself
abbrev pub labels_of : Block → List ℕ
labels_of no_statements = []
labels_of (statement c cs) = label_of c ++ labels_of cs

-- ---- numbers of blocks and statements

abbrev mutual
  -- how many blocks stand in each other: block IFs, logical IFs and loops
  pub blocks_of : Statement → ℕ
  blocks_of (If line arms other) = 1 + max (blocks_in_arms arms) (blocks_in other)
  blocks_of (Do line x a b c body) = 1 + blocks_in body
  blocks_of (Assignment line mark left right) = 0
  blocks_of (Where line mark m left right) = 0
  blocks_of (Label n) = 0
  blocks_of (GoTo line n) = 0
  blocks_of (Stop line) = 0
  blocks_of (Read line is) = 0
  blocks_of (Print line is) = 0
  blocks_of (Allocate line x es) = 0
  blocks_of (Deallocate line x) = 0

  pub blocks_in_arms : Arms → ℕ
  blocks_in_arms no_arms = 0
  blocks_in_arms (arm test body more) = max (blocks_in body) (blocks_in_arms more)

  pub blocks_in : Block → ℕ
  blocks_in no_statements = 0
  blocks_in (statement c cs) = max (blocks_of c) (blocks_in cs)

abbrev mutual
  -- how many statements there are, those in blocks too
  pub statement_count_of : Statement → ℕ
  statement_count_of (If line arms other) = 1 + (statement_count_in_arms arms + statement_count_in other)
  statement_count_of (Do line x a b c body) = 1 + statement_count_in body
  statement_count_of (Assignment line mark left right) = 1
  statement_count_of (Where line mark m left right) = 1
  statement_count_of (Label n) = 1
  statement_count_of (GoTo line n) = 1
  statement_count_of (Stop line) = 1
  statement_count_of (Read line is) = 1
  statement_count_of (Print line is) = 1
  statement_count_of (Allocate line x es) = 1
  statement_count_of (Deallocate line x) = 1

  pub statement_count_in_arms : Arms → ℕ
  statement_count_in_arms no_arms = 0
  statement_count_in_arms (arm test body more) = statement_count_in body + statement_count_in_arms more

  pub statement_count_in : Block → ℕ
  statement_count_in no_statements = 0
  statement_count_in (statement c cs) = statement_count_of c + statement_count_in cs

-- ---- what stands round a statement

-- the DO variables of the loops round it, and the labels that stand later in its block or in a block round that one
pub record Surroundings : Type 0 where
  pub variables : List (List ℕ)
  pub ahead : List ℕ

abbrev pub outermost : Surroundings
outermost = record { variables = []; ahead = [] }

abbrev pub within_loop : List ℕ → Surroundings → Surroundings
within_loop x w = record w { variables = x ∷ w.variables }

abbrev pub before_labels : List ℕ → Surroundings → Surroundings
before_labels ns w = record w { ahead = ns ++ w.ahead }
