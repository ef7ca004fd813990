-- The holds so far.
use Rattle.std.proofs.Common.{◌≡◌, ◌++◌, map, take}
use Rattle.f90_print.specs.Notes.{line_text}
use Rattle.listing.specs.graphs.Listing.{hold_entries, lines_of_entries}
use Rattle.listing.proofs.graphs.pieces.ListingLines.add_holds.Given as goal

abbrev pub invariant-loop-hold : goal.invariant-loop-hold
invariant-loop-hold l = map line_text l.self.list ≡ map line_text l.fn.self.list ++ lines_of_entries (hold_entries (take l.hold-index l.hold-items))
