use Rattle.std.proofs.Common.{length}
use Rattle.last_values.proofs.normal_forms.places.+coefficient_in.Given as goal

abbrev pub decreases-coefficient_in : goal.decreases-coefficient_in
decreases-coefficient_in l = length l.terms.now
