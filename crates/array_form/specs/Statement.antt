-- The array form of a statement of a nest.
use Rattle.std.specs.Prelude.{ℕ, ◌≤◌, ◌<◌, ◌^◌, All, Option, Some, None, List, length}
use Rattle.tree.specs.Plain.{Expression, Reference, Statement, Where, If, no_arms, arm, Block, no_statements, statement}
use Rattle.tree.specs.declared.stmts.Mark.{Mark}
use Rattle.subscripts.specs.Shapes.{IsForm}
use Rattle.nest.specs.Plain.{Nest}
use Rattle.array_form.specs.forms.Forms.{form, subscript_forms}
use Rattle.array_form.specs.forms.Loops.{FormLoop, FormSurroundings}
use Rattle.array_form.specs.forms.Statements.{array_form_of}
use Rattle.array_form.specs.holds.Statements.{statement_at, surroundings_at}
use Rattle.array_form.specs.holds.Plain.{IsPlainStatement}
use Rattle.array_form.specs.holds.Surroundings.{known_trip}

-- There is a statement with this number, in at most 7 loops, of which the level is one; its trips are forms under its
-- loops, and the symbols have places of 16 bits, with one left
pub record HasArrayForm (n : Nest) (s level : ℕ) : Type 0 where
  pub statement : IsPlainStatement n s
  pub from_one : 1 ≤ level
  pub within : level ≤ length (statement_at n s).loops
  pub symbols : length n.symbols < 2 ^ 16
  pub trips :
      All (λ l. IsForm (length (statement_at n s).loops) (known_trip l.trip).top) (statement_at n s).loops

-- with its mark in the listing: the nest, the statement, the level
abbrev pub array_form_at : Nest → ℕ → ℕ → Block
array_form_at n s level =
    array_form_of (surroundings_at n s) level (statement_at n s).statement.line
    (Some (record { nest = n.number; stmt = s; level = level })) (statement_at n s).statement.guard
    (statement_at n s).statement.left (statement_at n s).statement.right

abbrev pub block_of_one : Statement → Block
block_of_one c = statement c no_statements

abbrev pub under_condition : ℕ → Option Expression → Block → Block
under_condition line None body = body
under_condition line (Some e) body = block_of_one (If line (arm e body no_arms) no_statements)

-- a WHERE over these loops
abbrev pub masked_over : FormSurroundings → List FormLoop → ℕ → Option Mark → Expression → Reference → Expression
    → Statement
masked_over a D line mark guard left right =
    Where line mark (form a D guard)
    (record { name = left.name; subscripts = subscript_forms a D left.subscripts }) (form a D right)
