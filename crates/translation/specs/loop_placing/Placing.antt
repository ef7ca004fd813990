-- Statements in the place of loops, which are numbered from 1 in the order of the text.
use Rattle.std.specs.Prelude.{ℕ, ◌-◌, Option, Some, None, List, [], ◌∷◌, ◌++◌, map, slice_index_or}
use Rattle.std.specs.Option.{option_map}
use Rattle.tree.specs.Plain.{Statement, Assignment, Where, If, Do, Label, GoTo, Stop, Read, Print, Allocate}
use Rattle.tree.specs.Plain.{Deallocate, Arms, no_arms, arm, Block, no_statements, statement, block}
use Rattle.tree.specs.View.{Tested, block_of}
use Rattle.tree.specs.declared.stmts.Block.{Block as Tree}
use Rattle.find_nests.specs.nest_parts.Numbers.{number_after, after_arms, after_block, next_loop_number}

abbrev pub statements_of_block : Block → List Statement
statements_of_block no_statements = []
statements_of_block (statement c cs) = c ∷ statements_of_block cs

-- a block for some of the loops, in their order
abbrev pub blocks_of : List (Option Tree) → List (Option Block)
blocks_of bs = map (option_map block_of) bs

module _ (blocks : List (Option Block)) where
  -- the block of the loop with this number, if there is one
  abbrev pub block_at : ℕ → Option Block
  block_at k = slice_index_or blocks (k - 1) None

  abbrev pub instead : Option Block → Statement → List Statement
  instead None c = c ∷ []
  instead (Some b) c = statements_of_block b

  -- k loops stand before the statement
  abbrev mutual
    pub placed_statement : ℕ → Statement → List Statement
    placed_statement k (Assignment line mark left right) = Assignment line mark left right ∷ []
    placed_statement k (Where line mark mask left right) = Where line mark mask left right ∷ []
    placed_statement k (If line arms other) =
        If line (placed_arms k arms) (block (placed_in (after_arms k arms) other)) ∷ []
    placed_statement k (Do line x first last step body) =
        instead (block_at (next_loop_number k))
        (Do line x first last step (block (placed_in (next_loop_number k) body)))
    placed_statement k (Label n) = Label n ∷ []
    placed_statement k (GoTo line n) = GoTo line n ∷ []
    placed_statement k (Stop line) = Stop line ∷ []
    placed_statement k (Read line is) = Read line is ∷ []
    placed_statement k (Print line is) = Print line is ∷ []
    placed_statement k (Allocate line x es) = Allocate line x es ∷ []
    placed_statement k (Deallocate line x) = Deallocate line x ∷ []

    pub placed_arms : ℕ → Arms → Arms
    placed_arms k no_arms = no_arms
    placed_arms k (arm test body arms) = arm test (block (placed_in k body)) (placed_arms (after_block k body) arms)

    pub placed_in : ℕ → Block → List Statement
    placed_in k no_statements = []
    placed_in k (statement c cs) = placed_statement k c ++ placed_in (number_after k c) cs

  -- of a list of statements, and of arms
  abbrev pub placed_list : ℕ → List Statement → List Statement
  placed_list k [] = []
  placed_list k (c ∷ cs) = placed_statement k c ++ placed_list (number_after k c) cs

  abbrev pub placed_arm : ℕ → Tested → Tested
  placed_arm k t = record { test = t.test; body = block (placed_in k t.body) }

  abbrev pub placed_each : ℕ → List Tested → List Tested
  placed_each k [] = []
  placed_each k (t ∷ ts) = placed_arm k t ∷ placed_each (after_block k t.body) ts
