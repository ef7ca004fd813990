-- What is listed of a nest or of a kept loop.
use Rattle.std.specs.Prelude.{◌≡◌, List, map}
use Rattle.f90_print.specs.Notes.{line_text}
use Rattle.find_nests.specs.Found.{Found}
use Rattle.listing.specs.graphs.Lines.{Entry}
use Rattle.listing.specs.graphs.Listing.{lines_of_entries}
use Rattle.listing.specs.declared.programs.counts.Counts.{Counts}
use Rattle.listing.specs.declared.programs.nests.Listed.{Listed}
use Rattle.listing.specs.programs.Listing.{HasEntries, counts_behind}

-- its lines, and what is made in the program up to its end, where so much was made before
pub record IsListedAs (counts : Counts) (f : Found) (r : Listed) : Type 0 where
  pub entries : List Entry
  pub are : HasEntries counts f entries
  pub lines : map line_text r.lines ≡ lines_of_entries entries
  pub behind : r.counts ≡ counts_behind counts f entries are
