use Rattle.listing_laws.proofs.reader.Rejoined.{listing-is-read}
use Rattle.listing_laws.proofs.reader.listing_is_read.Goals as goal

pub returns : goal.returns
returns c = listing-is-read
