-- The lines of a listing as notes before a printed program.
use Rattle.std.specs.Prelude.{ℕ, List}
use Rattle.std.specs.List.{AllByRecursion}
use Rattle.tree.specs.Plain.{Program}
use Rattle.meaning.specs.Dialect.{fortran77}
use Rattle.tree.specs.declared.width.Width.{Width}
use Rattle.meaning.specs.Profile77.{IsProgram77}
use Rattle.f90_grammar.specs.PrintedText.{IsNote}
use Rattle.listing.specs.programs.Listing.{IsListing}

-- each line of a listing may stand as a note before a printed program
abbrev pub ListingLinesAreNotes : (width : Width) → Type 0
ListingLinesAreNotes width = (p : Program) (lines : List (List ℕ)) → IsProgram77 (fortran77 width) p → IsListing p lines
    → AllByRecursion IsNote lines
