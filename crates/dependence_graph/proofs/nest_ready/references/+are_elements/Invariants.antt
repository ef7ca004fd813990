use Rattle.std.proofs.Common.{length}
use Rattle.dependence_graph.proofs.nest_ready.references.+are_elements.Given as goal

abbrev pub decreases-are_elements : goal.decreases-are_elements
decreases-are_elements l = length l.subs.now
