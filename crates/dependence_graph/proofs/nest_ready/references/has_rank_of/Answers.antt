use Rattle.std.proofs.Common.{rules}
use Rattle.dependence_graph.proofs.nest_ready.RankLaws.{has_rank_named}
use Rattle.dependence_graph.proofs.nest_ready.references.has_rank_of.Goals as goal

pub returns : goal.returns
returns c =
    has_rank_named c.args.one.now c.args.other.now c.len.result c.len-2.result (first_of (cc, search rules)) (first_of (cc, search rules)) (first_of (cc, search rules))
