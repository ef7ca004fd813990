-- The drops so far.
use Rattle.std.proofs.Common.{◌≡◌, ◌++◌, map, take}
use Rattle.f90_print.specs.Notes.{line_text}
use Rattle.listing.specs.graphs.Listing.{drop_entry, lines_of_entries}
use Rattle.listing.proofs.graphs.pieces.ListingLines.add_drops.Given as goal

abbrev pub invariant-loop-drop : goal.invariant-loop-drop
invariant-loop-drop l = map line_text l.self.list ≡ map line_text l.fn.self.list ++ lines_of_entries (map drop_entry (take l.drop-index l.drops))
