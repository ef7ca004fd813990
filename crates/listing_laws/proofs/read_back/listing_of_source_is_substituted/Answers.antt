use Rattle.listing_laws.proofs.read_back.SourceListings.{source_listing_is_substituted}
use Rattle.listing_laws.proofs.read_back.listing_of_source_is_substituted.Goals as goal

pub returns : goal.returns
returns c = source_listing_is_substituted
