use Rattle.std.proofs.Common.{length}
use Rattle.array_form.proofs.holds.triangles.+coefficient.Given as goal

abbrev pub decreases-coefficient : goal.decreases-coefficient
decreases-coefficient l = length l.times.now
