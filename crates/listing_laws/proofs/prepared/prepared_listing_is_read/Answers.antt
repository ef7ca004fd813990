use Rattle.listing_laws.proofs.prepared.Listed.{prepared_nest_is_tidy}
use Rattle.listing_laws.proofs.prepared.prepared_listing_is_read.Goals as goal

pub returns : goal.returns
returns c = prepared_nest_is_tidy
