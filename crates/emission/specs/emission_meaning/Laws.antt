-- The meaning of what is emitted.
use Rattle.std.specs.Prelude.{◌≡◌, None, true, List, length}
use Rattle.std.specs.List.{range_with_len}
use Rattle.dependence_graph.specs.declared.graphs.Graph.{Graph}
use Rattle.dependence_graph.specs.declared.graphs.Hold.{Hold}
use Rattle.emission.specs.emission_forms.Forms.{AreAllHolds, AreRegular}
use Rattle.emission.specs.emission_forms.Written.{HasFormFacts, HaveGuardedNames}
use Rattle.emission.specs.emission_pieces.Emission.{AreEmitted}
use Rattle.emission.specs.emission_pieces.Pieces.{Pieces, block_of_pieces}
use Rattle.meaning.specs.Run.{State, Going, does, does_all}
use Rattle.emission.specs.graph_orders.Nests.{run_nest}
use Rattle.nest_order.specs.facts.Facts.{HasFacts}
use Rattle.dependence_graph.specs.nest_graph.Graph.{IsGraphOf}
use Rattle.dependence_graph.specs.nest_graph.Ready.{IsReady}
use Rattle.nest_order.specs.runs.Guarded.{dialect, sequential}
use Rattle.nest_order.specs.runs.Laws.{GoesOnNear}
use Rattle.nest_order.specs.runs.Stores.{HoldsNest, Setting}
use Rattle.nest_order.specs.shapes.Shapes.{IsPlain}
use Rattle.nest.specs.Blocks.{statement_of_part}
use Rattle.nest.specs.Bodies.{nest_statements}
use Rattle.nest.specs.Plain.{Nest}
use Rattle.tree.specs.Widths.{bits_of}
use Rattle.tree.specs.declared.width.Width.{Width}

-- Let a nest of loops and statements alone, with subscripts as array forms have them, stand in a setting with its
-- facts, and let made arrays be as large as guarded statements ask. Where its sequential run goes on, what is emitted
-- for it by its dependence graph and all its holds goes on as well with arrays as values, and leaves the same store but
-- for the loop variables
abbrev pub EmissionKeepsMeaning : (width : Width) → Type 0
EmissionKeepsMeaning width = (n : Nest) (g : Graph) (holds : List Hold) (ps : Pieces) (w : Setting) (s : State)
    → IsPlain n.body → IsReady n → AreRegular n → HasFacts (bits_of width) (run_nest n) w → HasFormFacts n w
    → HaveGuardedNames n w
    → IsGraphOf n g → AreAllHolds n holds
    → AreEmitted n g.edges holds 1 (range_with_len 0 (length (nest_statements n))) ps
    → HoldsNest (bits_of width) (run_nest n) w s.store
    → (does (sequential (bits_of width)) None (statement_of_part n.line n.body) s).way ≡ Going
    → GoesOnNear (run_nest n) (does (sequential (bits_of width)) None (statement_of_part n.line n.body) s)
    (does_all (dialect (bits_of width) true) None (block_of_pieces n 1 ps) s)
