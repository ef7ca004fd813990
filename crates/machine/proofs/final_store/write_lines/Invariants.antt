use Rattle.std.proofs.Common.{◌≡◌, [], take, length}
use Rattle.std.specs.List.{flat_map, range_with_len}
use Rattle.streams.specs.Streams.{Gives}
use Rattle.machine.specs.Storage.{bounds_list}
use Rattle.machine.specs.Showing.{value_line}
use Rattle.machine.proofs.final_store.write_lines.Given as goal

abbrev pub invariant-loop-place : goal.invariant-loop-place
invariant-loop-place g l =
    Gives (g.K.Sink.taken l.initial.out)
    (flat_map (value_line l.name (bounds_list l.dims) l.values) (take l.place (range_with_len 0 (length l.values))))
    (g.K.Sink.taken l.out) × (g.K.Sink.faults l.out ≡ g.K.Sink.faults l.initial.out) × (l.values ≡ [] → l.out ≡ l.initial.out)
