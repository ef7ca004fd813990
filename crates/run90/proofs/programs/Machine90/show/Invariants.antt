use Rattle.std.proofs.Common.{◌≡◌, [], take}
use Rattle.std.specs.List.{flat_map}
use Rattle.streams.specs.Streams.{Gives}
use Rattle.tree.specs.declared.programs.Decl.{Decl}
use Rattle.meaning.specs.Steps.{lines_of_name}
use Rattle.run90.specs.Machine.{store_left}
use Rattle.run90.proofs.programs.Machine90.show.Given as goal

abbrev pub invariant-loop-decl : goal.invariant-loop-decl
invariant-loop-decl g l =
    Gives (g.K.Sink.taken l.initial.out) (flat_map (λ (d : Decl). lines_of_name d.name (store_left l.self)) (take l.decl-index l.decl-items)) (g.K.Sink.taken l.out)
    × (g.K.Sink.faults l.out ≡ g.K.Sink.faults l.initial.out)
    × (flat_map (λ (d : Decl). lines_of_name d.name (store_left l.self)) l.decl-items ≡ [] → l.out ≡ l.initial.out)
