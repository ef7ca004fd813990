-- What the answers so far give was added.
use Rattle.std.proofs.Common.{◌≡◌, ◌++◌, take}
use Rattle.dependence_graph.specs.dep_graph.Joined.{all_drops_at, all_edges_at}
use Rattle.dependence_graph.proofs.dep_graph.lines.Dependences.add_answers.Given as goal

abbrev pub invariant-loop-answer : goal.invariant-loop-answer
invariant-loop-answer l = record {
  edges : l.self.edges ≡ l.initial.self.edges ++ all_edges_at l.ends (take l.answer-index l.answers);
  dropped : l.self.dropped ≡ l.initial.self.dropped ++ all_drops_at l.ends (take l.answer-index l.answers);
}
