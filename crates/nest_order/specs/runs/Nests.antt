-- Nests of loops from 1 by 1 with guarded assignments in them, and what their instances do to a store.
use Rattle.std.specs.Prelude.{◌≡◌, ◌⊎◌, Result, Ok, Option, ℕ, ℤ, pos, Bool, false, ◌||◌, List, [], ◌∷◌, map}
use Rattle.tree.specs.Steps.{◌>>=◌}
use Rattle.tree.specs.Plain.{Expression}
use Rattle.tree.specs.declared.ops.Fault.{Fault}
use Rattle.tree.specs.declared.ops.Value.{Value}
use Rattle.tree.specs.declared.ops.Value.TheVariants.{Int}
use Rattle.meaning.specs.Dialect.{Dialect}
use Rattle.meaning.specs.Store.{Store, Cell, same_cell}
use Rattle.meaning_laws.specs.arrays.Instances.{after}
use Rattle.nest_order.specs.orders.Shapes.{Shape, Single, Loop, Shapes, no_shapes, shape, loops_of_shape, Instance}
use Rattle.nest_order.specs.runs.Guarded.{GuardedAssignment, variable_cell, at_iterations, effect, reads}

-- A shape, and what its numbers stand for. Of a statement: the loops round it from the outside in, and its guarded
-- assignment; and of an expression in it, where that is linear, its value by the values of the symbols and the
-- iterations. Of a loop: its variable, its trip as it is written, and the number of its turns by the values of the
-- symbols and the iterations of the loops round it
pub record RunNest : Type 0 where
  pub shape : Shape
  pub loops_of : ℕ → List ℕ
  pub statement_at : ℕ → GuardedAssignment
  pub linear : ℕ → Expression → Option ((ℕ → ℤ) → List ℕ → ℤ)
  pub variable_at : ℕ → List ℕ
  pub trip_at : ℕ → Expression
  pub turns_of : (ℕ → ℤ) → ℕ → List ℕ → ℕ
  pub symbols : List (List ℕ)

-- the loop l stands in just the loops `round`, from the outside in
abbrev mutual
  pub LoopStands : Shape → List ℕ → ℕ → Type 0
  LoopStands (Single s) round l = ⊥
  LoopStands (Loop m ts) [] l = m ≡ l
  LoopStands (Loop m ts) (k ∷ round) l = (m ≡ k) × LoopStandsIn ts round l

  pub LoopStandsIn : Shapes → List ℕ → ℕ → Type 0
  LoopStandsIn no_shapes round l = ⊥
  LoopStandsIn (shape t ts) round l = LoopStands t round l ⊎ LoopStandsIn ts round l

abbrev pub is_one_of : List Cell → Cell → Bool
is_one_of [] c = false
is_one_of (d ∷ ds) c = same_cell d c || is_one_of ds c

module _ (n : RunNest) where
  abbrev pub variable_of : ℕ → Cell
  variable_of l = variable_cell (n.variable_at l)

  abbrev pub variables_round : ℕ → List (List ℕ)
  variables_round s = map n.variable_at (n.loops_of s)

  -- c is the variable of a loop of the nest
  abbrev pub is_nest_variable : Cell → Bool
  is_nest_variable c = is_one_of (map variable_of (loops_of_shape n.shape)) c

  -- the variables of the loops ls hold the iterations is
  abbrev pub AreAt : List ℕ → List ℕ → Store → Type 0
  AreAt [] [] s = Unit {0}
  AreAt (l ∷ ls) (i ∷ is) s = (s.held (variable_of l) ≡ Int (pos i)) × AreAt ls is s
  AreAt _ _ s = ⊥

  module _ (lang : Dialect) where
    -- an instance reads and stores what its statement does where the loops round it are at its iterations
    abbrev pub effect_of : Instance → Store → Result (Option (Cell × Value)) Fault
    effect_of x s =
        effect lang (n.statement_at x.statement) (at_iterations (variables_round x.statement) x.iterations s)

    abbrev pub reads_of : Instance → Store → List Cell
    reads_of x s =
        reads lang (n.statement_at x.statement) (at_iterations (variables_round x.statement) x.iterations s)

    abbrev pub acts : Instance → Store → Result Store Fault
    acts x s = do
      w ← effect_of x s
      Ok (after w s)

-- two stores with the same bounds, and the same values but in variables of the nest's loops
pub record Near (n : RunNest) (s t : Store) : Type 0 where
  pub bounds : (x : List ℕ) → s.bounds x ≡ t.bounds x
  pub held : (c : Cell) → is_nest_variable n c ≡ false → s.held c ≡ t.held c
