use Rattle.std.proofs.Common.{map, drop}
use Rattle.f77_names.specs.UsesView.{plain_use}
use Rattle.f77_names.specs.Counted.{Counts}
use Rattle.f77_names.proofs.counts.Counted.note_all.Given as goal

abbrev pub invariant-loop-i : goal.invariant-loop-i
invariant-loop-i l = record { counts : Counts l.names l.initial.self l.self (map plain_use (drop l.i l.uses)) }
