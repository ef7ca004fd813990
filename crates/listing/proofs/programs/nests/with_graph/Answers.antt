use Rattle.std.proofs.Common.{sym, subst}
use Rattle.dependence_graph.specs.nest_graph.Graph.{IsGraphOf}
use Rattle.dependence_graph.specs.nest_graph.Ready.{IsReady}
use Rattle.nest.specs.View.{nest_of}
use Rattle.nest.specs.declared.nests.Nest.{Nest}
use Rattle.listing.proofs.programs.nests.with_graph.Goals as goal

pub graph-requires : goal.graph-requires
graph-requires c = subst (λ (n : Nest). IsReady (nest_of n)) (sym c.deref-read.ensures) c.requires

pub returns-clause-graph : goal.returns-clause-graph
returns-clause-graph c =
    subst (λ (n : Nest). IsGraphOf (nest_of n) c.in_ok-graph.graph) c.deref-read.ensures c.in_ok-graph.ensures
