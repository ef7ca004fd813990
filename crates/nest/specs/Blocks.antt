-- The statements that a nest stands for. Loops, IFs and jumps keep no line of their own, and have the nest's.
use Rattle.std.specs.Prelude.{ℕ, suc, ℤ, pos, negsuc, Option, Some, None}
use Rattle.tree.specs.Plain.{Expression, Number, Unary, Statement, Assignment, If, Do, Label as Label', GoTo, Arms}
use Rattle.tree.specs.Plain.{no_arms, arm, Block, no_statements, statement}
use Rattle.tree.specs.declared.ops.Op.TheVariants.{Neg}
use Rattle.nest.specs.Plain.{Guarded, Part, Run, Turns, Choice, Label, Jump, Parts, no_parts, part, Branches}
use Rattle.nest.specs.Plain.{no_branches, branch, Nest}
use Rattle.nest.specs.Allocations.{allocations_then, block_then, deallocations}

-- a number as an expression, whose literals aren't negative
abbrev pub numeral : ℤ → Expression
numeral (pos n) = Number (pos n)
numeral (negsuc n) = Unary Neg (Number (pos (suc n)))

abbrev pub assignment_of : Guarded → Statement
assignment_of s = Assignment s.line None s.left s.right

abbrev pub under_guard : ℕ → Option Expression → Statement → Statement
under_guard line None c = c
under_guard line (Some e) c = If line (arm e (statement c no_statements) no_arms) no_statements

-- an assignment under its guard, at its own line
abbrev pub guarded_statement : Guarded → Statement
guarded_statement s = under_guard s.line s.guard (assignment_of s)

-- by the nest's line
module _ (line : ℕ) where
  abbrev mutual
    pub statement_of_part : Part → Statement
    statement_of_part (Run s) = guarded_statement s
    statement_of_part (Turns l ps) = Do line l.variable l.first l.last (numeral l.step) (block_of_parts ps)
    statement_of_part (Choice bs ps) = If line (arms_of_branches bs) (block_of_parts ps)
    statement_of_part (Label n) = Label' n
    statement_of_part (Jump n) = GoTo line n

    pub block_of_parts : Parts → Block
    block_of_parts no_parts = no_statements
    block_of_parts (part p ps) = statement (statement_of_part p) (block_of_parts ps)

    pub arms_of_branches : Branches → Arms
    arms_of_branches no_branches = no_arms
    arms_of_branches (branch test ps bs) = arm test (block_of_parts ps) (arms_of_branches bs)

-- the nest as it is run: its arrays are allocated, then its loops run, then what comes after, and the arrays are
-- deallocated
abbrev pub block_of_nest : Nest → Block
block_of_nest n =
    allocations_then n.line n.made (statement (statement_of_part n.line n.body)
    (block_then n.after (deallocations n.line n.made)))
