use Rattle.std.proofs.Common.{◌≡◌, map}
use Rattle.tree.specs.View.{expression_of, subscript_of}
use Rattle.f90_grammar.specs.Phrases.{arguments90_of}
use Rattle.f90_trees.proofs.building.arguments.Given as goal

abbrev pub invariant-loop-part : goal.invariant-loop-part
invariant-loop-part l = map expression_of l.exprs ≡ arguments90_of (map subscript_of l.yielded)
