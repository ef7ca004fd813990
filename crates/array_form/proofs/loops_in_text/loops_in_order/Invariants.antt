-- Those that stand in the subscripts so far.
use Rattle.std.proofs.Common.{◌≡◌, map, take}
use Rattle.tree.specs.View.{subscript_of}
use Rattle.array_form.specs.Loops.{in_order}
use Rattle.array_form.proofs.loops_in_text.loops_in_order.Given as goal

abbrev pub invariant-loop-sub : goal.invariant-loop-sub
invariant-loop-sub l = l.those ≡ in_order l.loops (map subscript_of (take l.sub-index l.sub-items))
