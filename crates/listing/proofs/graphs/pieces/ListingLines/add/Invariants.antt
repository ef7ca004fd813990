use Rattle.std.proofs.Common.{◌≡◌, ◌++◌, length, map, codes}
use Rattle.f90_print.specs.Notes.{line_text}
use Rattle.listing.specs.graphs.Listing.{lines_from}
use Rattle.listing.proofs.graphs.pieces.ListingLines.add.Given as goal

-- the lines so far and those of the rest
abbrev pub invariant-pieces : goal.invariant-pieces
invariant-pieces l = map line_text l.self.list ++ lines_from l.first l.rest ≡ map line_text l.fn.self.list ++ lines_from (codes "!G ") l.text

abbrev pub decreases-pieces : goal.decreases-pieces
decreases-pieces l = length l.rest
