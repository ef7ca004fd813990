-- What the tests give of a nest.
use Rattle.std.specs.Prelude.{◌≡◌, ◌<◌, ◌^◌, ℕ, Bool, Some, List}
use Rattle.dependence_graph.specs.declared.graphs.Graph.{Graph}
use Rattle.dependence_graph.specs.declared.graphs.Hold.{Hold}
use Rattle.dependence_graph.specs.declared.graphs.Place.{Place}
use Rattle.dependence_graph.specs.nest_graph.Graph.{IsGraphOf}
use Rattle.dependence_graph.specs.nest_graph.Ready.{IsReady}
use Rattle.emission.specs.nest_emission.Given.{MayBeEmitted}
use Rattle.nest.specs.Plain.{Nest}
use Rattle.node_splitting.specs.Split.{with_nodes_split}
use Rattle.listing.specs.graphs.Listing.{lines_of_entries}
use Rattle.array_form.specs.holds.Holds.{all_holds}
use Rattle.listing.specs.graphs.Lines.{Entry}
use Rattle.listing.specs.programs.Listing.{HasCycleEntries}

-- a graph of the nest, all its holds, and the lines that say so and list the cycles
pub record AreTestsOf (number : ℕ) (n : Nest) (g : Graph) (holds : List Hold) (lines : List (List ℕ)) : Type 0 where
  pub graph : IsGraphOf n g
  pub holds_are : holds ≡ all_holds n
  pub entries : List Entry
  pub listed : HasCycleEntries number n g entries
  pub lines_are : lines ≡ lines_of_entries entries

-- by each graph of it
pub record MayBeListed (n : Nest) : Type 0 where
  pub ready : IsReady n
  pub emitted : (g : Graph) → IsGraphOf n g → MayBeEmitted n g

-- whichever reads are copied, where their copies can be counted
abbrev pub MayBeSplitReady : Nest → Type 0
MayBeSplitReady n = (may : Place → Bool) (k : Nest) → with_nodes_split may n ≡ Some k → k.copies < 2 ^ 32 → IsReady k
