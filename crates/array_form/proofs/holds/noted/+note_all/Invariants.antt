use Rattle.std.proofs.Common.{length}
use Rattle.array_form.proofs.holds.noted.+note_all.Given as goal

abbrev pub decreases-note_all : goal.decreases-note_all
decreases-note_all l = length l.all.now
