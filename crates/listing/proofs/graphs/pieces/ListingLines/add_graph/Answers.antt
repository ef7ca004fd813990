use Rattle.std.proofs.Common.{map, arith}
use Rattle.f90_print.specs.Notes.{line_text}
use Rattle.nest.specs.statement_loops.Standings.{standing_of}
use Rattle.listing.proofs.graphs.GraphLines.{edges-taken, with-drops}
use Rattle.listing.proofs.graphs.pieces.ListingLines.add_graph.Goals as goal

pub loop-edge-preserved : goal.loop-edge-preserved
loop-edge-preserved c =
    with-drops (map standing_of c.args.standings.now) c.as_slice-edge-items.result.now c.loop-edge.edge-index c.edge-item.result
    c.loop-edge.drops.now c.split_at.result.0.now c.split_at.result.1.now c.count_before.result c.as_slice.result.now c.in_ok-edge_text.field-0.items
    (map line_text c.add_drops.new.self.list) (map line_text c.loop-edge.self.list) (map line_text c.add.new.self.list)
    (map line_text c.args.self.now.list) c.args.graph.now
    (omega arith) c.edge-item.is c.loop-edge.invariant c.split_at.ensures.front c.split_at.ensures.back c.count_before.ensures.before
    c.count_before.ensures.behind c.as_slice.ensures.value c.in_ok-edge_text.ensures c.in_ok-add_drops.ensures c.in_ok-add.ensures

pub returns : goal.returns
returns c =
    edges-taken (map standing_of c.args.standings.now) c.as_slice-edge-items.result.now c.loop-edge.edge-index c.loop-edge.drops.now
    (map line_text c.loop-edge.self.list) (map line_text c.add_drops-2.new.self.list) _ (omega arith) c.loop-edge.invariant c.in_ok-add_drops-2.ensures
