-- Nests without IF, label or jump, whose loops go from 1 by 1: as shapes with tables of what their numbers stand for.
use Rattle.std.specs.Prelude.{◌≡◌, ⊤, ℕ, ◌+◌, ◌==◌, if◌then◌else◌, ℤ, pos, Option, Some, None, List, [], ◌∷◌, map}
use Rattle.tree.specs.Plain.{Expression, Number, no_subscripts}
use Rattle.nest_order.specs.orders.Lists.{Distinct}
use Rattle.nest_order.specs.orders.Nests.{IsNest}
use Rattle.nest_order.specs.orders.Shapes.{Shape, Single, Loop, Shapes, no_shapes, shape}
use Rattle.nest_order.specs.runs.Blocks.{Layout, nest_statement}
use Rattle.nest_order.specs.runs.Guarded.{GuardedAssignment}
use Rattle.nest_order.specs.runs.Nests.{RunNest}
use Rattle.nest_order.specs.runs.Touched.{nth_of}
use Rattle.nest.specs.Blocks.{statement_of_part}
use Rattle.nest.specs.Bodies.{Standing, statements_of, loops_of}
use Rattle.nest.specs.Plain.{Part, Run, Turns, Parts, no_parts, part}
use Rattle.nest.specs.Plain as tree

-- the loop goes from 1 by 1
pub record IsNormal (l : tree.Loop) : Type 0 where
  pub first : l.first ≡ Number (pos 1)
  pub step : l.step ≡ pos 1

-- loops and statements alone, and each loop from 1 by 1
abbrev mutual
  pub IsPlain : Part → Type 0
  IsPlain (Run s) = ⊤
  IsPlain (Turns l ps) = IsNormal l × ArePlain ps
  IsPlain _ = ⊥

  pub ArePlain : Parts → Type 0
  ArePlain no_parts = ⊤
  ArePlain (part p ps) = IsPlain p × ArePlain ps

-- how many statements stand in it
abbrev mutual
  pub size_of : Part → ℕ
  size_of (Run s) = 1
  size_of (Turns l ps) = sizes_of ps
  size_of _ = 0

  pub sizes_of : Parts → ℕ
  sizes_of no_parts = 0
  sizes_of (part p ps) = size_of p + sizes_of ps

-- statements have numbers in text order, the first one k; loops have their own
abbrev mutual
  pub shape_of : ℕ → Part → Shape
  shape_of k (Run s) = Single k
  shape_of k (Turns l ps) = Loop l.number (shapes_of k ps)
  shape_of k _ = Loop 0 no_shapes

  pub shapes_of : ℕ → Parts → Shapes
  shapes_of k no_parts = no_shapes
  shapes_of k (part p ps) = shape (shape_of k p) (shapes_of (k + size_of p) ps)

-- ---- tables

abbrev pub numbers_of : List tree.Loop → List ℕ
numbers_of ls = map (λ (l : tree.Loop). l.number) ls

abbrev pub loop_numbered : List tree.Loop → ℕ → Option tree.Loop
loop_numbered [] k = None
loop_numbered (l ∷ ls) k = if l.number == k then Some l else loop_numbered ls k

abbrev pub guarded_of : Option Standing → GuardedAssignment
guarded_of (Some x) = record { guard = x.statement.guard; left = x.statement.left; right = x.statement.right }
guarded_of None =
    record { guard = None; left = record { name = []; subscripts = no_subscripts }; right = Number (pos 0) }

abbrev pub line_of : Option Standing → ℕ
line_of (Some x) = x.statement.line
line_of None = 0

abbrev pub loops_round : Option Standing → List ℕ
loops_round (Some x) = numbers_of x.loops
loops_round None = []

abbrev pub variable_of_loop : Option tree.Loop → List ℕ
variable_of_loop (Some l) = l.variable
variable_of_loop None = []

abbrev pub trip_of_loop : Option tree.Loop → Expression
trip_of_loop (Some l) = l.last
trip_of_loop None = Number (pos 0)

-- the nest's body with the symbols, with the linear forms of its subscripts and the turns of its loops
abbrev pub nest_of : Part → List (List ℕ) → (ℕ → Expression → Option ((ℕ → ℤ) → List ℕ → ℤ))
    → ((ℕ → ℤ) → ℕ → List ℕ → ℕ) → RunNest
nest_of body symbols linear turns_of = record {
  shape = shape_of 0 body;
  loops_of = λ s. loops_round (nth_of (statements_of body) s);
  statement_at = λ s. guarded_of (nth_of (statements_of body) s);
  linear = linear;
  variable_at = λ l. variable_of_loop (loop_numbered (loops_of body) l);
  trip_at = λ l. trip_of_loop (loop_numbered (loops_of body) l);
  turns_of = turns_of;
  symbols = symbols;
}

-- without marks, with the lines of the nest
abbrev pub layout_of : ℕ → Part → Layout
layout_of line body = record {
  line_at = λ s. line_of (nth_of (statements_of body) s);
  mark_at = λ s. None;
  loop_line = λ l. line;
}

-- ---- laws

-- what it stands for as a statement is what its shape stands for
abbrev pub StatementIsOfShape : Type 0
StatementIsOfShape =
    (line : ℕ) (body : Part) (symbols : List (List ℕ)) (linear : ℕ → Expression → Option ((ℕ → ℤ) → List ℕ → ℤ))
    (turns_of : (ℕ → ℤ) → ℕ → List ℕ → ℕ)
    → IsPlain body → Distinct (numbers_of (loops_of body))
    → statement_of_part line body
    ≡ nest_statement (nest_of body symbols linear turns_of) (layout_of line body) [] (shape_of 0 body)

-- its shape is that of a nest: statements rise, no loop stands twice, and each statement stands in its own loops
abbrev pub ShapeIsNest : Type 0
ShapeIsNest =
    (body : Part) (symbols : List (List ℕ)) (linear : ℕ → Expression → Option ((ℕ → ℤ) → List ℕ → ℤ))
    (turns_of : (ℕ → ℤ) → ℕ → List ℕ → ℕ)
    → IsPlain body → Distinct (numbers_of (loops_of body))
    → IsNest (nest_of body symbols linear turns_of).loops_of (shape_of 0 body)
