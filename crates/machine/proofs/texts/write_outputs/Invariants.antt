use Rattle.std.proofs.Common.{◌≡◌, take}
use Rattle.streams.specs.Streams.{Gives}
use Rattle.meaning.specs.Texts.{output_text}
use Rattle.machine.proofs.texts.write_outputs.Given as goal

abbrev pub invariant-loop-value : goal.invariant-loop-value
invariant-loop-value g l =
    Gives (g.K.Sink.taken l.initial.out) (output_text (take l.value-index l.values)) (g.K.Sink.taken l.out) × (g.K.Sink.faults l.out ≡ g.K.Sink.faults l.initial.out)
