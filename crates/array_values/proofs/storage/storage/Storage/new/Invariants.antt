use Rattle.array_values.proofs.storage.OpeningLaws.{AreKept}
use Rattle.array_values.proofs.storage.storage.Storage.new.Given as goal

abbrev pub invariant-loop-decl : goal.invariant-loop-decl
invariant-loop-decl l = AreKept l.decls l.slots.items l.names.keys l.decl-index
