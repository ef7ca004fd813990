use Rattle.std.proofs.Common.{◌-◌, vec_len}
use Rattle.streams.proofs.Progress.{Reads}
use Rattle.streams.proofs.transfer.read_all.Given as goal

abbrev pub invariant-loop-n : goal.invariant-loop-n
invariant-loop-n g l =
    Reads (g.S.Source.left l.initial.from) (g.S.Source.left l.from) l.bytes.items l.limit (g.S.Source.faults l.initial.from) (g.S.Source.faults l.from)

-- each turn takes a byte or more, and the last may pass the limit
abbrev pub decreases-loop-n : goal.decreases-loop-n
decreases-loop-n g l = l.limit - vec_len l.bytes
