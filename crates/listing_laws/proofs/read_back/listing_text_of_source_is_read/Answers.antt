use Rattle.listing_laws.proofs.read_back.SourceListings.{source_listing_text_is_read}
use Rattle.listing_laws.proofs.read_back.listing_text_of_source_is_read.Goals as goal

pub returns : goal.returns
returns c = source_listing_text_is_read
