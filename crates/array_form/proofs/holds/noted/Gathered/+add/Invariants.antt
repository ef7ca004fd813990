use Rattle.std.proofs.Common.{length}
use Rattle.array_form.proofs.holds.noted.Gathered.+add.Given as goal

abbrev pub decreases-add : goal.decreases-add
decreases-add l = length l.items.now
