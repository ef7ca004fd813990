use Rattle.std.proofs.Common.{map, arith}
use Rattle.f90_print.specs.Notes.{line_text}
use Rattle.nest.specs.View.{branch_of, part_of}
use Rattle.listing.specs.graphs.Listing.{lines_of_entries, loop_entries, loop_entries_of}
use Rattle.listing.proofs.graphs.LoopLines.{more}
use Rattle.listing.proofs.graphs.pieces.ListingLines.+loops.Goals as goal

pub add_loops_in-loop-part-preserved : goal.add_loops_in-loop-part-preserved
add_loops_in-loop-part-preserved t c =
    more (λ p. lines_of_entries (loop_entries c.args.outer p)) part_of c.as_slice-part-items.result.now c.loop-part.part-index c.part-item.result
    (map line_text c.args.self.now.list) (map line_text c.loop-part.self.list) (map line_text c.add_loops.new.self.list)
    (omega arith) c.part-item.is c.loop-part.invariant c.in_ok-add_loops.ensures

pub add_loops_under-loop-arm-preserved : goal.add_loops_under-loop-arm-preserved
add_loops_under-loop-arm-preserved t c =
    more (λ b. lines_of_entries (loop_entries_of c.args.outer b)) branch_of c.as_slice-arm-items.result.now c.loop-arm.arm-index c.arm-item.result
    (map line_text c.args.self.now.list) (map line_text c.loop-arm.self.list) (map line_text c.add_loops_of.new.self.list)
    (omega arith) c.arm-item.is c.loop-arm.invariant c.in_ok-add_loops_of.ensures
