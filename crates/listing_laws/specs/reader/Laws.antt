-- A listing tells what it was made of.
use Rattle.std.specs.Prelude.{◌≡◌, Some, List, map}
use Rattle.std.specs.List.{AllByRecursion}
use Rattle.listing.specs.graphs.Lines.{Entry, entry_text}
use Rattle.listing.specs.graphs.Listing.{lines_of_entries}
use Rattle.listing_laws.specs.reader.Listable.{IsListable}
use Rattle.listing_laws.specs.reader.Reader.{read_entry, read_listing}

-- each entry that can be listed is read from its text
abbrev pub EntryIsRead : Type 0
EntryIsRead = (e : Entry) → IsListable e → read_entry (entry_text e) ≡ Some e

-- from the lines of a listing its entries are read, in their order
abbrev pub ListingIsRead : Type 0
ListingIsRead = (es : List Entry) → AllByRecursion IsListable es → read_listing (lines_of_entries es) ≡ map Some es
