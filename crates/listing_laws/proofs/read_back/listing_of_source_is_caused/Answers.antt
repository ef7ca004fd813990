use Rattle.listing_laws.proofs.read_back.SourceListings.{source_listing_is_caused}
use Rattle.listing_laws.proofs.read_back.listing_of_source_is_caused.Goals as goal

pub returns : goal.returns
returns c = source_listing_is_caused
