use Rattle.std.proofs.Common.{map, take}
use Rattle.f90_names.specs.kinds.declarations.Entries.{entry_of, Declares}
use Rattle.f90_names.proofs.kinds.declarations.names.Names.declare_all.Given as goal

abbrev pub invariant-loop-entity : goal.invariant-loop-entity
invariant-loop-entity l =
    record {
      declares : Declares l.initial.self l.self
          (map (entry_of l.kind l.is_allocatable) (take l.entity-index l.entities)) l.again;
    }
