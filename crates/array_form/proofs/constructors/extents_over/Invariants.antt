-- The trips so far.
use Rattle.std.proofs.Common.{◌≡◌, map, take}
use Rattle.tree.specs.View.{expression_of}
use Rattle.array_form.specs.Texts.{extent_over}
use Rattle.array_form.proofs.constructors.extents_over.Given as goal

abbrev pub invariant-loop-turns : goal.invariant-loop-turns
invariant-loop-turns l = map expression_of l.all ≡ map (extent_over l.a) (take l.turns-index l.over)
