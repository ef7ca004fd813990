-- The copies so far are those of the items so far.
use Rattle.std.proofs.Common.{◌≡◌, map, take}
use Rattle.tree.specs.View.{declaration_of}
use Rattle.tree.proofs.declarations.copy_decls.Given as goal

abbrev pub invariant-loop-decl : goal.invariant-loop-decl
invariant-loop-decl l = map declaration_of l.copies ≡ map declaration_of (take l.decl-index l.decl-items)
