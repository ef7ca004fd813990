-- That lines list a program.
use Rattle.std.specs.Prelude.{◌≡◌, ℕ, Some, List, map}
use Rattle.find_nests.specs.Found.{found_in}
use Rattle.tree.specs.Plain.{Program}
use Rattle.listing.specs.programs.Causes.{AreCaused}
use Rattle.listing.specs.programs.Inductions.{AreSubstituted}
use Rattle.listing.specs.programs.Listing.{IsListing, no_counts}
use Rattle.listing.specs.programs.Private.{AreExpanded}
use Rattle.listing_laws.specs.reader.Reader.{read_listing}

-- The lines are those of a right and complete listing of the program, and just its entries are read from them, in their
-- order. In the statements that are listed of a nest no private scalar is left, and no induction is written; and each
-- loop in which they stand has its causes in what is listed
pub record Lists (p : Program) (lines : List (List ℕ)) : Type 0 where
  pub listing : IsListing p lines
  pub read : read_listing lines ≡ map Some listing.entries
  pub private_names : AreExpanded no_counts (found_in p) listing.entries listing.are
  pub inductions : AreSubstituted no_counts (found_in p) listing.entries listing.are
  pub causes : AreCaused no_counts (found_in p) listing.entries listing.are
