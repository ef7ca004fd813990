use Rattle.std.proofs.Common.{length}
use Rattle.listing.proofs.graphs.order.+are_less.Given as goal

abbrev pub decreases-are_less : goal.decreases-are_less
decreases-are_less l = length l.a.now
