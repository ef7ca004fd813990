-- A nest of loops and statements alone, as the laws of runs and orders have it: its subscripts and trips by their
-- linear forms.
use Rattle.std.specs.Prelude.{ℕ, ℤ, pos, Option, Some, None, List, map}
use Rattle.tree.specs.Plain.{Expression}
use Rattle.linear_forms.specs.Linear.{form_of}
use Rattle.nest_order.specs.facts.Facts.{counted, number_by}
use Rattle.dependence_graph.specs.nest_graph.Instances.{turns_at}
use Rattle.nest_order.specs.runs.Nests as runs
use Rattle.nest_order.specs.shapes.Shapes.{loop_numbered, nest_of}
use Rattle.nest.specs.declared.parts.Trip.{Trip}
use Rattle.nest.specs.Bodies.{nest_loops}
use Rattle.nest.specs.Plain.{Loop, Nest}

-- ---- how often its loops turn

-- by the iterations of the loops round it; not at all where no trip is known
abbrev pub turns_of_trip : Option Trip → (ℕ → ℤ) → List ℕ → ℕ
turns_of_trip None values before = 0
turns_of_trip (Some t) values before = counted (turns_at t values (map pos before))

abbrev pub turns_of_loop : Option Loop → (ℕ → ℤ) → List ℕ → ℕ
turns_of_loop None values before = 0
turns_of_loop (Some l) values before = turns_of_trip l.trip values before

module _ (n : Nest) where
  abbrev pub turns_in : (ℕ → ℤ) → ℕ → List ℕ → ℕ
  turns_in values l before = turns_of_loop (loop_numbered (nest_loops n) l) values before

  -- ---- the values of linear expressions

  -- without forms and turns
  abbrev pub bare_nest : runs.RunNest
  bare_nest = nest_of n.body n.symbols (λ s e. None) (λ values l before. 0)

  abbrev pub linear_in : ℕ → Expression → Option ((ℕ → ℤ) → List ℕ → ℤ)
  linear_in s e = number_by n.symbols (form_of (runs.variables_round bare_nest s) n.symbols e)

  abbrev pub run_nest : runs.RunNest
  run_nest = nest_of n.body n.symbols linear_in turns_in
