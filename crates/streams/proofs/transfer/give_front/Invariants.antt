use Rattle.std.proofs.Common.{◌≡◌, ◌-◌, length}
use Rattle.streams.proofs.Progress.{Writes}
use Rattle.streams.proofs.transfer.give_front.Given as goal

abbrev pub invariant-loop-given : goal.invariant-loop-given
invariant-loop-given g l =
    Writes (l.to ≡ l.initial.to) (g.K.Sink.taken l.initial.to) (g.K.Sink.taken l.to) l.text l.given (g.K.Sink.faults l.initial.to) (g.K.Sink.faults l.to)

abbrev pub decreases-loop-given : goal.decreases-loop-given
decreases-loop-given g l = length l.text - l.given
