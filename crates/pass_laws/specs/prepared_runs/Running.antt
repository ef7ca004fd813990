-- A prepared nest at work: what is run of it, what is emitted for it, and where both are run.
use Rattle.std.specs.Prelude.{◌≡◌, ℕ, ℤ, Bool, Ok, Some, None, IsSomeAnd, All, List, [], length}
use Rattle.std.specs.List.{range_with_len}
use Rattle.tree.specs.Plain.{Block, Program, statement}
use Rattle.tree.specs.declared.ops.Value.TheVariants.{Int}
use Rattle.meaning.specs.Dialect.{fortran77}
use Rattle.tree.specs.declared.width.Width.{Width}
use Rattle.meaning.specs.Holding.{HoldsProgram}
use Rattle.meaning.specs.Run.{State, Going, does, does_all}
use Rattle.meaning.specs.Store.{Store}
use Rattle.nest.specs.Allocations.{block_then}
use Rattle.nest.specs.Blocks.{statement_of_part}
use Rattle.nest.specs.Bodies.{nest_statements}
use Rattle.nest.specs.Plain.{Made, Nest}
use Rattle.nest_order.specs.orders.Orders.{runs}
use Rattle.nest_order.specs.orders.Shapes.{instances}
use Rattle.nest_order.specs.runs.Guarded.{dialect, variable_cell}
use Rattle.nest_order.specs.runs.Laws.{GoesOnNear}
use Rattle.nest_order.specs.runs.Nests.{acts}
use Rattle.nest_order.specs.runs.Quiet.{SameLines}
use Rattle.nest_order.specs.runs.Stores.{Setting}
use Rattle.nest_order.specs.runs.Touched.{nth_of}
use Rattle.dependence_graph.specs.declared.graphs.Graph.{Graph}
use Rattle.dependence_graph.specs.declared.graphs.Hold.{Hold}
use Rattle.dependence_graph.specs.nest_graph.Graph.{IsGraphOf}
use Rattle.emission.specs.emission_forms.Forms.{AreAllHolds}
use Rattle.emission.specs.emission_pieces.Emission.{AreEmitted}
use Rattle.emission.specs.emission_pieces.Pieces.{Pieces, block_of_pieces}
use Rattle.emission.specs.graph_orders.Nests.{run_nest}
use Rattle.pass_laws.specs.prepared_nests.Made.{AreBoundsBy}

-- ---- what is run

-- the loops of a nest, and then what comes after them: all but what allocates and deallocates made arrays
abbrev pub loops_then_after : Nest → Block
loops_then_after m = statement (statement_of_part m.line m.body) m.after

-- ps are emitted for its loops by a graph of it and all its holds
pub record ArePiecesOf (m : Nest) (ps : Pieces) : Type 0 where
  pub graph : Graph
  pub is_graph : IsGraphOf m graph
  pub holds : List Hold
  pub all : AreAllHolds m holds
  pub emitted : AreEmitted m graph.edges holds 1 (range_with_len 0 (length (nest_statements m))) ps

-- what is emitted for the loops, and then what comes after them
abbrev pub pieces_then_after : Nest → Pieces → Block
pieces_then_after m ps = block_then (block_of_pieces m 1 ps) m.after

-- ---- where it is run

-- At a moment of a program that declares all names, those that passes made too: symbols hold these values, and made
-- arrays are allocated, from 1 to the values of their extents
pub record MayRun (width : Width) (p : Program) (m : Nest) (s : State) : Type 0 where
  pub going : s.way ≡ Going
  pub holds : HoldsProgram (fortran77 width) p s.store
  pub values : ℕ → ℤ
  pub valued : (k : ℕ) (x : List ℕ) → nth_of m.symbols k ≡ Some x → s.store.held (variable_cell x) ≡ Int (values k)
  pub made : All (λ (a : Made). IsSomeAnd (s.store.bounds a.name) (AreBoundsBy m.symbols values a.extents)) m.made

-- with the bounds that names have there
abbrev pub setting_at : (width : Width) {p : Program} {m : Nest} {s : State} → MayRun width p m s → Setting
setting_at width {p} {m} {s} may = record { program = p; bounds = s.store.bounds; values = may.values }

-- from s both runs go on, to moments whose stores are the same but for the variables of the nest's loops, and neither
-- reads or writes a line
pub record GoOnTogether (m : Nest) (s t u : State) : Type 0 where
  pub going : t.way ≡ Going
  pub beside : GoesOnNear (run_nest m) t u
  pub lines : SameLines s t
  pub lines_beside : SameLines s u

-- ---- the run as instances

-- The run of the nest from s is its instances, one after another in their sequential order, and then what comes after,
-- but for the variables of the loops, with arrays as values and without
pub record IsRunOfInstances (width : Width) (m : Nest) (s : State) : Type 0 where
  -- the symbols' values, by which the loops turn
  pub values : ℕ → ℤ
  pub valued : (k : ℕ) (x : List ℕ) → nth_of m.symbols k ≡ Some x → s.store.held (variable_cell x) ≡ Int (values k)
  -- the instances meet no fault and leave this store
  pub left : Store
  pub one_by_one : runs (acts (run_nest m) (fortran77 width))
      (instances ((run_nest m).turns_of values) (run_nest m).shape []) s.store
      ≡ Ok left
  pub loops : (arrays : Bool) → GoesOnNear (run_nest m) (record s { store = left })
      (does (dialect (fortran77 width).bits arrays) None (statement_of_part m.line m.body) s)
  -- what comes after them goes on from it
  pub way : (does_all (fortran77 width) None m.after (record s { store = left })).way ≡ Going
  pub near : (arrays : Bool)
      → GoesOnNear (run_nest m) (does_all (fortran77 width) None m.after (record s { store = left }))
      (does_all (dialect (fortran77 width).bits arrays) None (loops_then_after m) s)
  pub lines : (arrays : Bool)
      → SameLines s (does_all (dialect (fortran77 width).bits arrays) None (loops_then_after m) s)
