-- The statements so far.
use Rattle.std.proofs.Common.{◌≡◌, ◌++◌, take}
use Rattle.listing.specs.graphs.Lines.{walk_text}
use Rattle.listing.proofs.graphs.dependences.push_walk.Given as goal

abbrev pub invariant-loop-s : goal.invariant-loop-s
invariant-loop-s l = l.text.items ≡ l.fn.text.items ++ walk_text (take l.s-index l.s-items)
