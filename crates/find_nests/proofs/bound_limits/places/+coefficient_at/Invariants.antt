use Rattle.std.proofs.Common.{length}
use Rattle.find_nests.proofs.bound_limits.places.+coefficient_at.Given as goal

abbrev pub decreases-coefficient_at : goal.decreases-coefficient_at
decreases-coefficient_at l = length l.terms.now
