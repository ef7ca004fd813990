use Rattle.dependence_graph.proofs.dep_graph.PairLaws.{padded_is}
use Rattle.dependence_graph.proofs.dep_graph.pairs.padded.Goals as goal

pub returns : goal.returns
returns c = padded_is c.copy_from_slice.new.self c.args.spans.now c.copy_from_slice.ensures.after
