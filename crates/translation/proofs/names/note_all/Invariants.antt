use Rattle.std.proofs.Common.{take}
use Rattle.translation.specs.Names.{AreWithMade}
use Rattle.translation.proofs.names.note_all.Given as goal

abbrev pub invariant-loop-name : goal.invariant-loop-name
invariant-loop-name l = AreWithMade l.initial.names.keys (take l.name-index l.all) l.names.keys
