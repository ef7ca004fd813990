use Rattle.listing_laws.proofs.read_back.SourceListings.{same_lines_list_the_same}
use Rattle.listing_laws.proofs.read_back.same_lines_list_the_same.Goals as goal

pub returns : goal.returns
returns c = same_lines_list_the_same
