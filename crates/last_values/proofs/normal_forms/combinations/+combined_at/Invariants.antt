use Rattle.std.proofs.Common.{length}
use Rattle.last_values.proofs.normal_forms.combinations.+combined_at.Given as goal

abbrev pub decreases-combined_at : goal.decreases-combined_at
decreases-combined_at l = length l.terms.now
