use Rattle.std.proofs.Common.{◌≡◌, ℕ, List, []}
use Rattle.std.specs.List.{flat_map}
use Rattle.std.specs.Map.{keys_of}
use Rattle.meaning.specs.Steps.{lines_of_name}
use Rattle.machine.specs.Stored.{store_in}
use Rattle.machine.proofs.LineLaws.{HasLeft}
use Rattle.machine.proofs.storage.Storage.show.Given as goal

abbrev pub invariant-loop-name : goal.invariant-loop-name
invariant-loop-name g l =
    let lines : List ℕ → List ℕ = λ x. lines_of_name x (store_in l.self) in
    HasLeft lines (flat_map lines (keys_of l.self.variables.entries)) l.name-iterator (g.K.Sink.taken l.initial.out) (g.K.Sink.taken l.out)
    × (g.K.Sink.faults l.out ≡ g.K.Sink.faults l.initial.out)
    × (flat_map lines (keys_of l.self.variables.entries) ≡ [] → l.out ≡ l.initial.out)
