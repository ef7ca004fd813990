-- Stores in which a nest may be run, and what is asked of the nest.
use Rattle.std.specs.Prelude.{◌≡◌, ◌⊎◌, Ok, Option, Some, IfSome, ℕ, ℤ, pos, List, [], map}
use Rattle.tree.specs.OperationFaults.{kind_of}
use Rattle.tree.specs.Plain.{Declaration, Expression, Program}
use Rattle.tree.specs.declared.ops.Kind.TheVariants.{Integer}
use Rattle.tree.specs.declared.ops.Value.{Value}
use Rattle.tree.specs.declared.ops.Value.TheVariants.{Int}
use Rattle.meaning.specs.Holding.{HoldsProgram}
use Rattle.meaning.specs.Reads.{names_in}
use Rattle.meaning.specs.Store.{Store, Cell}
use Rattle.meaning.specs.Typed.{declared}
use Rattle.meaning.specs.Value.{value_of, number_of, trip_count}
use Rattle.nest_order.specs.orders.Lists.{In}
use Rattle.nest_order.specs.orders.Nests.{IsNest, IsInstance}
use Rattle.nest_order.specs.orders.Shapes.{loops_of_shape, statements, Instance, Within}
use Rattle.nest_order.specs.runs.Guarded.{sequential, variable_cell, at_iterations, names_of}
use Rattle.nest_order.specs.runs.Nests.{RunNest, AreAt, LoopStands, effect_of, variables_round}
use Rattle.nest_order.specs.runs.Touched.{IsPlainAssignment, nth_of}

-- Where a nest stands: in a program, the names that its passes made declared with the others; and for the time of its
-- run the bounds of all names, also of made arrays that are allocated round it, and the values of the symbols, each by
-- its place in the nest's list
pub record Setting : Type 0 where
  pub program : Program
  pub bounds : List ℕ → Option (List (ℤ × ℤ))
  pub values : ℕ → ℤ

-- Each declared name has its bounds, and each cell of the name a value of its kind within the range of INTEGER; the
-- symbols have their values
pub record HoldsNest (bits : ℕ) (n : RunNest) (w : Setting) (s : Store) : Type 0 where
  pub program : HoldsProgram (sequential bits) w.program s
  pub bounds : (x : List ℕ) → s.bounds x ≡ w.bounds x
  pub symbols : (k : ℕ) (x : List ℕ) → nth_of n.symbols k ≡ Some x → s.held (variable_cell x) ≡ Int (w.values k)

-- what is asked of the text of a nest
pub record IsNestText (n : RunNest) : Type 0 where
  pub nest : IsNest n.loops_of n.shape
  -- each loop has a variable of its own
  pub variables : (l m : ℕ) → In l (loops_of_shape n.shape) → In m (loops_of_shape n.shape)
      → n.variable_at l ≡ n.variable_at m → l ≡ m
  -- of the loop variables a statement names those of its own loops alone, and it assigns none
  pub own : (s l : ℕ) → In s (statements n.shape) → In l (loops_of_shape n.shape)
      → In (n.variable_at l) (names_of (n.statement_at s)) → In l (n.loops_of s)
  pub unwritten : (s l : ℕ) → In s (statements n.shape) → In l (loops_of_shape n.shape)
      → ¬ ((n.statement_at s).left.name ≡ n.variable_at l)
  -- symbols are assigned neither by a statement nor by a loop
  pub symbols : (s : ℕ) (x : List ℕ) → In s (statements n.shape) → In x n.symbols
      → ¬ ((n.statement_at s).left.name ≡ x)
  pub others : (l : ℕ) (x : List ℕ) → In l (loops_of_shape n.shape) → In x n.symbols → ¬ (n.variable_at l ≡ x)
  -- a trip has the names of symbols and of the variables of the loops round it
  pub trips : (round : List ℕ) (l : ℕ) (x : List ℕ) → LoopStands n.shape round l → In x (names_in (n.trip_at l))
      → In x n.symbols ⊎ In x (map n.variable_at round)
  -- no array form stands in it
  pub plain : (s : ℕ) → In s (statements n.shape) → IsPlainAssignment (n.statement_at s)

-- and what of the nest in its setting
pub record IsNestIn (bits : ℕ) (n : RunNest) (w : Setting) : Type 0 where
  pub text : IsNestText n
  -- loop variables and symbols are scalars, and these variables INTEGER
  pub variables : (l : ℕ) → In l (loops_of_shape n.shape) → w.bounds (n.variable_at l) ≡ Some []
  pub integer : (l : ℕ) → In l (loops_of_shape n.shape)
      → IfSome (declared w.program.declarations (n.variable_at l)) (λ (d : Declaration). d.kind ≡ Integer)
  pub symbols : (x : List ℕ) → In x n.symbols → w.bounds x ≡ Some []
  -- an instance stores a value of the kind of what it stores in
  pub typed : (x : Instance) (t : Store) (c : Cell) (v : Value)
      → IsInstance n.loops_of (n.turns_of w.values) n.shape x → HoldsNest bits n w t
      → effect_of n (sequential bits) x t ≡ Ok (Some (c, v))
      → IfSome (declared w.program.declarations c.name) (λ (d : Declaration). kind_of v ≡ d.kind)
  -- where a loop's trip can be counted, it is the number of turns
  pub trips : (round : List ℕ) (l : ℕ) (before : List ℕ) (t : Store) (z : ℤ) (k : ℕ) → LoopStands n.shape round l
      → Within (n.turns_of w.values) [] round before → HoldsNest bits n w t → AreAt n round before t
      → number_of (sequential bits) (n.trip_at l) t ≡ Ok z → trip_count (pos 1) z (pos 1) ≡ Ok k
      → k ≡ n.turns_of w.values l before
  -- a linear expression in an instance has its value
  pub linear : (x : Instance) (t : Store) (e : Expression) (f : (ℕ → ℤ) → List ℕ → ℤ) (z : ℤ)
      → IsInstance n.loops_of (n.turns_of w.values) n.shape x → HoldsNest bits n w t
      → n.linear x.statement e ≡ Some f
      → value_of (sequential bits) e (at_iterations (variables_round n x.statement) x.iterations t) ≡ Ok (Int z)
      → z ≡ f w.values x.iterations
