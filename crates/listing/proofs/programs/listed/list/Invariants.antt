-- The lines of all so far, and what is made by then.
use Rattle.std.proofs.Common.{map, take}
use Rattle.f90_print.specs.Notes.{line_text}
use Rattle.find_nests.specs.View.{found_of}
use Rattle.listing.proofs.programs.Entries.{AreListed}
use Rattle.listing.proofs.programs.listed.list.Given as goal

abbrev pub invariant-loop-found : goal.invariant-loop-found
invariant-loop-found l = AreListed (map found_of (take l.found-index l.found-items)) (map line_text l.all.items) l.counts
