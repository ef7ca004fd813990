use Rattle.std.proofs.Common.{◌≡◌, map, take}
use Rattle.tree.specs.View.{subscript_of}
use Rattle.scalar_expand.specs.Expanded.{loop_subscript}
use Rattle.scalar_expand.proofs.elements.variables.Given as goal

abbrev pub invariant-loop-turns : goal.invariant-loop-turns
invariant-loop-turns l = map subscript_of l.subs.items ≡ map loop_subscript (take l.turns-index l.loops)
