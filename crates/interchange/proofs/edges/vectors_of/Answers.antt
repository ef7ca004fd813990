use Rattle.std.proofs.Common.{◌∙◌, ap, arith, take_all}
use Rattle.interchange.specs.Arranged.{vectors_of}
use Rattle.interchange.proofs.ListLaws.{vectors_step}
use Rattle.interchange.proofs.edges.vectors_of.Goals as goal

pub loop-edge-preserved : goal.loop-edge-preserved
loop-edge-preserved c =
    vectors_step c.args.edges.now c.loop-edge.edge-index c.edge-item.result c.loop-edge.vectors c.add_vector.new.vectors (omega arith) c.edge-item.is c.loop-edge.invariant c.in_ok-add_vector.ensures

pub returns : goal.returns
returns c = c.loop-edge.invariant ∙ ap vectors_of (take_all c.loop-edge.edge-index c.args.edges.now (omega arith))
