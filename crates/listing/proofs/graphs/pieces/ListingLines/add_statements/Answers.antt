use Rattle.std.proofs.Common.{map, arith}
use Rattle.f90_print.specs.Notes.{line_text}
use Rattle.listing.proofs.graphs.StatementLines.{statements-more}
use Rattle.listing.proofs.graphs.pieces.ListingLines.add_statements.Goals as goal

pub loop-i-preserved : goal.loop-i-preserved
loop-i-preserved c =
    statements-more c.as_slice-standing-items.result.now c.loop-i.i c.standing-item.result c.as_slice.result.now c.in_ok-statement_text.field-0.items
    (map line_text c.args.self.now.list) (map line_text c.loop-i.self.list) (map line_text c.add.new.self.list)
    (omega arith) c.standing-item.is c.as_slice.ensures.value c.in_ok-statement_text.ensures c.loop-i.invariant c.in_ok-add.ensures
