-- Laws of what is emitted, as statements.
use Rattle.std.specs.Prelude.{◌≡◌, true, List, [], length}
use Rattle.std.specs.List.{range_with_len}
use Rattle.array_form.specs.lone.Cells.{UnguardedNameCells}
use Rattle.dependence_graph.specs.declared.graphs.Graph.{Graph}
use Rattle.dependence_graph.specs.declared.graphs.Hold.{Hold}
use Rattle.emission.specs.emission_pieces.Emission.{AreEmitted}
use Rattle.emission.specs.emission_pieces.Pieces.{Pieces, block_of_pieces}
use Rattle.emission.specs.emission_pieces.Shapes.{shapes_of}
use Rattle.emission.specs.graph_orders.Arcs.{arcs_of}
use Rattle.emission.specs.graph_orders.Nests.{run_nest}
use Rattle.nest_order.specs.facts.Facts.{HasFacts}
use Rattle.dependence_graph.specs.nest_graph.Graph.{IsGraphOf}
use Rattle.dependence_graph.specs.nest_graph.Ready.{IsReady}
use Rattle.nest_order.specs.runs.Blocks.{written_in}
use Rattle.nest_order.specs.runs.LoneForms.{AreLoneForms}
use Rattle.nest_order.specs.runs.Stores.{Setting}
use Rattle.nest_order.specs.shapes.Shapes.{IsPlain}
use Rattle.nest.specs.Bodies.{nest_statements}
use Rattle.nest.specs.Plain.{Nest}
use Rattle.emission.specs.emission_forms.Forms.{AreAllHolds, AreRegular, formed, marked_layout}
use Rattle.emission.specs.emission_forms.Written.{HasFormFacts, HaveGuardedNames}
use Rattle.tree.specs.Widths.{bits_of}
use Rattle.tree.specs.declared.width.Width.{Width}

-- What is emitted for a nest of loops and statements alone
abbrev pub PiecesAreWritten : Type 0
PiecesAreWritten = (n : Nest) (g : Graph) (holds : List Hold) (ps : Pieces)
    → IsPlain n.body → IsReady n → IsGraphOf n g
    → AreEmitted n g.edges holds 1 (range_with_len 0 (length (nest_statements n))) ps
    → written_in (run_nest n) (marked_layout n) (formed n g.edges holds) [] (shapes_of n 0 ps) ≡ block_of_pieces n 1 ps

-- The forms in it, where the instances of statements without a guard name cells
abbrev pub FormsAreLone : (width : Width) → Type 0
FormsAreLone width = (n : Nest) (g : Graph) (holds : List Hold) (w : Setting)
    → IsPlain n.body → IsReady n → AreRegular n → IsGraphOf n g → AreAllHolds n holds
    → HasFacts (bits_of width) (run_nest n) w → HasFormFacts n w → HaveGuardedNames n w
    → UnguardedNameCells (run_nest n) w
    → AreLoneForms (bits_of width) true (run_nest n) w (arcs_of g.edges) (formed n g.edges holds)
