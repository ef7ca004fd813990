-- All so far read what is written.
use Rattle.std.proofs.Common.{◌≡◌, take, true}
use Rattle.std.specs.List.{list_all}
use Rattle.tree.specs.View.{reference_of}
use Rattle.interchange.specs.Reads.{reads_what_is_written}
use Rattle.interchange.proofs.reads.all_read_it.Given as goal

abbrev pub invariant-loop-item : goal.invariant-loop-item
invariant-loop-item l = list_all (λ r. reads_what_is_written l.loops l.symbols (reference_of l.left) (reference_of r)) (take l.item-index l.items) ≡ true
