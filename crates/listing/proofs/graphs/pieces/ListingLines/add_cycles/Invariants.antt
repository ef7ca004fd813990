-- The cycles so far.
use Rattle.std.proofs.Common.{◌≡◌, ◌++◌, map, take}
use Rattle.f90_print.specs.Notes.{line_text}
use Rattle.listing.specs.graphs.Listing.{cycle_entry, lines_of_entries}
use Rattle.listing.proofs.graphs.pieces.ListingLines.add_cycles.Given as goal

abbrev pub invariant-loop-cycle : goal.invariant-loop-cycle
invariant-loop-cycle l = map line_text l.self.list ≡ map line_text l.fn.self.list ++ lines_of_entries (map cycle_entry (take l.cycle-index l.cycle-items))
