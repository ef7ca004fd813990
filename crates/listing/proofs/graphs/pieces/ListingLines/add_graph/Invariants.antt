-- The lines so far, and those of the edges and drops that are left.
use Rattle.std.proofs.Common.{◌≡◌, ◌++◌, map, drop}
use Rattle.f90_print.specs.Notes.{line_text}
use Rattle.nest.specs.statement_loops.Standings.{standing_of}
use Rattle.listing.specs.graphs.Listing.{answer_entry, dependence_entries, lines_of_entries}
use Rattle.listing.specs.graphs.Order.{entries_in_order}
use Rattle.listing.proofs.graphs.pieces.ListingLines.add_graph.Given as goal

abbrev pub invariant-loop-edge : goal.invariant-loop-edge
invariant-loop-edge l =
    map line_text l.self.list ++ lines_of_entries (map (answer_entry (map standing_of l.standings)) (entries_in_order (drop l.edge-index l.edge-items) l.drops))
    ≡ map line_text l.fn.self.list ++ lines_of_entries (dependence_entries (map standing_of l.standings) l.graph)
