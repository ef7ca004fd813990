-- Each so far has one at most.
use Rattle.std.proofs.Common.{◌≡◌, map, take, true}
use Rattle.std.specs.List.{list_all}
use Rattle.tree.specs.View.{subscript_of}
use Rattle.array_form.specs.Loops.{has_one}
use Rattle.array_form.proofs.loops_in_text.one_each.Given as goal

abbrev pub invariant-loop-sub : goal.invariant-loop-sub
invariant-loop-sub l = list_all (has_one l.loops) (map subscript_of (take l.sub-index l.sub-items)) ≡ true
