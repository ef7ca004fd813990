use Rattle.listing_laws.proofs.reader.Entries.{entry-is-read}
use Rattle.listing_laws.proofs.reader.entry_is_read.Goals as goal

pub returns : goal.returns
returns c = entry-is-read
