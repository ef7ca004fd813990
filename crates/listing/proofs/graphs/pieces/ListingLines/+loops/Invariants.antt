-- The lines of the parts so far were added.
use Rattle.std.proofs.Common.{◌≡◌, ◌++◌, map, take}
use Rattle.std.specs.List.{flat_map}
use Rattle.f90_print.specs.Notes.{line_text}
use Rattle.nest.specs.View.{branch_of, part_of}
use Rattle.listing.specs.graphs.Listing.{lines_of_entries, loop_entries, loop_entries_of}
use Rattle.listing.proofs.graphs.pieces.ListingLines.+loops.Given as goal

abbrev pub invariant-add_loops_in-loop-part : goal.invariant-add_loops_in-loop-part
invariant-add_loops_in-loop-part l =
    map line_text l.self.list ≡ map line_text l.initial.self.list ++ flat_map (λ p. lines_of_entries (loop_entries l.outer p)) (map part_of (take l.part-index l.part-items))

abbrev pub invariant-add_loops_under-loop-arm : goal.invariant-add_loops_under-loop-arm
invariant-add_loops_under-loop-arm l =
    map line_text l.self.list ≡ map line_text l.initial.self.list ++ flat_map (λ b. lines_of_entries (loop_entries_of l.outer b)) (map branch_of (take l.arm-index l.arm-items))
