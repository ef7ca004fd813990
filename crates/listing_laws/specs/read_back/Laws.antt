-- The listing of a program can be read back from its lines.
use Rattle.std.specs.Prelude.{◌≡◌, ℕ, Some, List, flat_map, map}
use Rattle.std.specs.Str.Lines.{lines}
use Rattle.f90_grammar.specs.PrintedText.{with_line_feed}
use Rattle.f77_grammar.specs.Reading77.{Reads77}
use Rattle.meaning.specs.Dialect.{fortran77}
use Rattle.tree.specs.declared.width.Width.{Width}
use Rattle.meaning.specs.Profile77.{IsProgram77}
use Rattle.tree.specs.Plain.{Program}
use Rattle.listing_laws.specs.reader.Lists.{Lists}
use Rattle.listing_laws.specs.reader.Reader.{read_listing}
use Rattle.find_nests.specs.Found.{found_in}
use Rattle.listing.specs.programs.Listing.{IsListing, IsListingText, no_counts}
use Rattle.listing.specs.programs.Causes.{AreCaused}
use Rattle.listing.specs.programs.Inductions.{AreSubstituted}
use Rattle.listing.specs.programs.Private.{AreExpanded}

-- from the lines of a program's listing its entries are read, in their order
abbrev pub ProgramListingIsRead : (width : Width) → Type 0
ProgramListingIsRead width = (p : Program) (all : List (List ℕ)) → IsProgram77 (fortran77 width) p
    → (listing : IsListing p all) → read_listing all ≡ map Some listing.entries

-- so the listing of a source is read
abbrev pub SourceListingIsRead : (width : Width) → Type 0
SourceListingIsRead width = (source : List ℕ) (p : Program) (all : List (List ℕ)) → Reads77 (fortran77 width) source p
    → (listing : IsListing p all) → read_listing all ≡ map Some listing.entries

-- also from its text
abbrev pub SourceListingTextIsRead : (width : Width) → Type 0
SourceListingTextIsRead width = (source : List ℕ) (p : Program) (text : List ℕ) → Reads77 (fortran77 width) source p
    → (listed : IsListingText p text) → read_listing (lines text) ≡ map Some listed.listing.entries

-- and its lines, each ended by a line feed, list the program of the source
abbrev pub SourceListingTextLists : (width : Width) → Type 0
SourceListingTextLists width = (source : List ℕ) (p : Program) (text : List ℕ) → Reads77 (fortran77 width) source p
    → IsListingText p text → Lists p (lines text) × (text ≡ flat_map with_line_feed (lines text))

-- of the nests that it lists, no private scalar is left
abbrev pub SourceListingIsExpanded : (width : Width) → Type 0
SourceListingIsExpanded width = (source : List ℕ) (p : Program) (all : List (List ℕ))
    → Reads77 (fortran77 width) source p
    → (l : IsListing p all) → AreExpanded no_counts (found_in p) l.entries l.are

-- and no induction is written
abbrev pub SourceListingIsSubstituted : (width : Width) → Type 0
SourceListingIsSubstituted width = (source : List ℕ) (p : Program) (all : List (List ℕ))
    → Reads77 (fortran77 width) source p
    → (l : IsListing p all) → AreSubstituted no_counts (found_in p) l.entries l.are

-- and each loop in which statements of them stand has its causes
abbrev pub SourceListingIsCaused : (width : Width) → Type 0
SourceListingIsCaused width = (source : List ℕ) (p : Program) (all : List (List ℕ)) → Reads77 (fortran77 width) source p
    → (l : IsListing p all) → AreCaused no_counts (found_in p) l.entries l.are

-- and two listings with the same lines have the same entries
abbrev pub SameLinesListTheSame : (width : Width) → Type 0
SameLinesListTheSame width = (source other : List ℕ) (p q : Program) (all : List (List ℕ))
    → Reads77 (fortran77 width) source p
    → Reads77 (fortran77 width) other q → (listing : IsListing p all) (others : IsListing q all)
    → listing.entries ≡ others.entries
