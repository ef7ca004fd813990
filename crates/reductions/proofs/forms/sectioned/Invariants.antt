use Rattle.std.proofs.Common.{◌≡◌, map, take}
use Rattle.tree.specs.View.{expression_of, subscript_of}
use Rattle.reductions.specs.Gathering.{in_section}
use Rattle.reductions.proofs.forms.sectioned.Given as goal

abbrev pub invariant-loop-sub : goal.invariant-loop-sub
invariant-loop-sub l = map subscript_of l.made ≡ map (in_section l.name (expression_of l.trip)) (map subscript_of (take l.sub-index l.sub-items))
