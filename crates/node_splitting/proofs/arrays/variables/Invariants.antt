use Rattle.std.proofs.Common.{◌≡◌, map, take}
use Rattle.tree.specs.View.{subscript_of}
use Rattle.node_splitting.specs.Arrays.{variable_subscript}
use Rattle.node_splitting.proofs.arrays.variables.Given as goal

abbrev pub invariant-loop-name : goal.invariant-loop-name
invariant-loop-name l = map subscript_of l.subs.items ≡ map variable_subscript (take l.name-index l.loops)
