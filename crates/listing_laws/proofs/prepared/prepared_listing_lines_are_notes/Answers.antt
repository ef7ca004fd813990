use Rattle.listing_laws.proofs.prepared.Listed.{prepared_nest_is_printable}
use Rattle.listing_laws.proofs.prepared.prepared_listing_lines_are_notes.Goals as goal

pub returns : goal.returns
returns c = prepared_nest_is_printable
