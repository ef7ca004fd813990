use Rattle.listing_laws.proofs.notes.Listed.{listing_lines_are_notes}
use Rattle.listing_laws.proofs.notes.listing_lines_are_notes.Goals as goal

pub returns : goal.returns
returns c = listing_lines_are_notes
