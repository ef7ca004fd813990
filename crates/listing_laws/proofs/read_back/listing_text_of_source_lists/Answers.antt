use Rattle.listing_laws.proofs.read_back.SourceListings.{source_listing_text_lists}
use Rattle.listing_laws.proofs.read_back.listing_text_of_source_lists.Goals as goal

pub returns : goal.returns
returns c = source_listing_text_lists
