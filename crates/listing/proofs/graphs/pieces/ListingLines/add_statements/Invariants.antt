-- The statements so far.
use Rattle.std.proofs.Common.{◌≡◌, ◌++◌, map, take}
use Rattle.f90_print.specs.Notes.{line_text}
use Rattle.nest.specs.statement_loops.Standings.{standing_of}
use Rattle.listing.specs.graphs.Listing.{lines_of_entries, statement_entries}
use Rattle.listing.proofs.graphs.pieces.ListingLines.add_statements.Given as goal

abbrev pub invariant-loop-i : goal.invariant-loop-i
invariant-loop-i l = map line_text l.self.list ≡ map line_text l.fn.self.list ++ lines_of_entries (statement_entries 1 (map standing_of (take l.i l.standing-items)))
