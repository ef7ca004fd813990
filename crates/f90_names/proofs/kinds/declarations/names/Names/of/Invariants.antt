use Rattle.std.proofs.Common.{take}
use Rattle.f90_names.specs.kinds.declarations.Entries.{Knows}
use Rattle.f90_names.proofs.kinds.OfDeclarations.EntryLaws.{entries_of}
use Rattle.f90_names.proofs.kinds.declarations.names.Names.of.Given as goal

abbrev pub invariant-loop-placed : goal.invariant-loop-placed
invariant-loop-placed l = record { knows : Knows l.names (entries_of (take l.placed-index l.text)) }
