use Rattle.listing_laws.proofs.read_back.Listed.{program_listing_is_read}
use Rattle.listing_laws.proofs.read_back.listing_of_program_is_read.Goals as goal

pub returns : goal.returns
returns c = program_listing_is_read
