use Rattle.std.proofs.Common.{◌≡◌, ◌++◌, List, subst, sym, ap, ◌∙◌}
use Rattle.std.specs.Prelude.{All}
use Rattle.nest.specs.View.{nest_of}
use Rattle.dependence_graph.specs.nest_graph.Graph.{all_drops, all_edges}
use Rattle.dependence_graph.specs.declared.nest_references.occurrences.Occurrence.{Occurrence}
use Rattle.dependence_graph.specs.dep_graph.Joined.{AreJoined, IsTestable, table}
use Rattle.dependence_graph.proofs.dep_graph.GraphLaws.{all_testable, is_graph}
use Rattle.dependence_graph.proofs.dep_graph.graphs.graph.Goals as goal

pub add_table-requires : goal.add_table-requires
add_table-requires c =
    subst (λ (xs : List Occurrence). All (λ (a : Occurrence). All (IsTestable a) xs) xs) (sym c.as_slice.ensures)
    (all_testable (nest_of c.args.nest.now) c.in_ok-all.all c.requires c.in_ok-all.ensures)

pub returns : goal.returns
returns c =
    let n = nest_of c.args.nest.now in let os = c.in_ok-all.all in
    let j = subst (λ (xs : List Occurrence). AreJoined (table xs xs) c.new-lines.result c.add_table.new.self) c.as_slice.ensures c.in_ok-add_table.ensures in
    is_graph n (record { stmts = c.in_ok-statement_count.field-0; edges = c.add_table.new.self.edges; dropped = c.add_table.new.self.dropped }) os j.couples
    c.requires c.in_ok-all.ensures j.are c.in_ok-statement_count.ensures
    (j.edges ∙ ap (λ es. es ++ all_edges j.couples) c.new-lines.ensures.edges)
    (j.dropped ∙ ap (λ es. es ++ all_drops j.couples) c.new-lines.ensures.dropped)
