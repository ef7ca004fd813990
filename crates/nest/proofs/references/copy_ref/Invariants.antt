-- The copies so far are those of the items so far.
use Rattle.std.proofs.Common.{◌≡◌, map, take}
use Rattle.tree.specs.View.{subscript_of}
use Rattle.nest.proofs.references.copy_ref.Given as goal

abbrev pub invariant-loop-sub : goal.invariant-loop-sub
invariant-loop-sub l = map subscript_of l.subs ≡ map subscript_of (take l.sub-index l.sub-items)
