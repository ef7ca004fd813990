use Rattle.std.proofs.Common.{◌≡◌, length, map}
use Rattle.std.specs.Vec.Iter.{into_iter_items, into_iter_len}
use Rattle.tree.specs.View.{declaration_of}
use Rattle.machine.proofs.OpeningLaws.{AreKept}
use Rattle.machine.proofs.storage.Storage.new.Given as goal

abbrev pub invariant-loop-decl : goal.invariant-loop-decl
invariant-loop-decl l = AreKept (map declaration_of l.fn.decls) l.variables.entries l.values.items (into_iter_items l.decl-iterator) × (length (into_iter_items l.decl-iterator) ≡ into_iter_len l.decl-iterator)
