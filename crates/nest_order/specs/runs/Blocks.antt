-- The statements that a nest stands for (ANSI X3.9-1978, sections 10, 11.6 and 11.10).
use Rattle.std.specs.Prelude.{ℕ, pos, Option, Some, None, List, [], ◌∷◌, ◌++◌}
use Rattle.tree.specs.Plain.{Number, Statement, Assignment, If, Do, no_arms, arm, Block, no_statements, statement}
use Rattle.tree.specs.declared.stmts.Mark.{Mark}
use Rattle.nest_order.specs.orders.Shapes.{Shape, Single, Loop, Shapes, no_shapes, shape}
use Rattle.nest_order.specs.runs.Guarded.{GuardedAssignment}
use Rattle.nest_order.specs.runs.Nests.{RunNest}

-- the lines of statements and loops, and the marks of statements
pub record Layout : Type 0 where
  pub line_at : ℕ → ℕ
  pub mark_at : ℕ → Option Mark
  pub loop_line : ℕ → ℕ

abbrev pub guarded_statement : ℕ → Option Mark → GuardedAssignment → Statement
guarded_statement line mark g = elim g.guard [
  | None ↦ Assignment line mark g.left g.right
  | Some e ↦ If line (arm e (statement (Assignment line mark g.left g.right) no_statements) no_arms) no_statements
]

abbrev pub or_statement : Option Statement → Statement → Statement
or_statement None c = c
or_statement (Some b) c = b

module _ (n : RunNest) (y : Layout) where
  abbrev pub statement_of : ℕ → Statement
  statement_of s = guarded_statement (y.line_at s) (y.mark_at s) (n.statement_at s)

  abbrev pub loop_of : ℕ → Block → Statement
  loop_of l body = Do (y.loop_line l) (n.variable_at l) (Number (pos 1)) (n.trip_at l) (Number (pos 1)) body

  -- form: the statement that stands in the place of a loop, if there is one, by the loops round that loop
  module _ (form : List ℕ → Shape → Option Statement) where
    abbrev mutual
      pub written : List ℕ → Shape → Statement
      written round (Single s) = statement_of s
      written round (Loop l ts) = or_statement (form round (Loop l ts)) (loop_of l (written_in (round ++ l ∷ []) ts))

      pub written_in : List ℕ → Shapes → Block
      written_in round no_shapes = no_statements
      written_in round (shape t ts) = statement (written round t) (written_in round ts)

  -- all in loops
  abbrev pub nest_statement : List ℕ → Shape → Statement
  nest_statement round t = written (λ r u. None) round t

  abbrev pub nest_block : List ℕ → Shapes → Block
  nest_block round ts = written_in (λ r u. None) round ts
