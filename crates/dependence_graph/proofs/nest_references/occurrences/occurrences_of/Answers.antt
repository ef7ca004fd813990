use Rattle.std.proofs.Common.{◌≡◌, List, map, subst, sym, ap, ◌∙◌}
use Rattle.std.specs.Prelude.{All}
use Rattle.std.proofs.lemmas.List.Elements.{All-same}
use Rattle.dependence_graph.specs.nest_graph.Ready.{IsReadyStatement}
use Rattle.nest.specs.Bodies.{Standing, nest_statements}
use Rattle.nest.specs.View.{nest_of}
use Rattle.nest.specs.statement_loops.Standings.{standing_of}
use Rattle.nest.specs.declared.statement_loops.standings.Standing.{Standing as Standing'}
use Rattle.dependence_graph.specs.nest_references.Occurrences.{AreOccurrences, AreOccurrencesIn}
use Rattle.dependence_graph.proofs.nest_references.OccurrenceLaws.{all_occurrences, each_ready, if_ok}
use Rattle.dependence_graph.proofs.nest_references.occurrences.occurrences_of.Goals as goal

pub occurrences_in-requires-clause-ready : goal.occurrences_in-requires-clause-ready
occurrences_in-requires-clause-ready c =
    let n = nest_of c.args.nest.now in let all = c.in_ok-all.all in
    subst (λ (xs : List Standing'). All (λ (s : Standing'). IsReadyStatement (standing_of s)) xs) (sym c.as_slice.ensures)
    (each_ready all (All-same IsReadyStatement (map standing_of all) (nest_statements n) c.in_ok-all.ensures c.requires.statements))

pub returns : goal.returns
returns c =
    let n = nest_of c.args.nest.now in
    if_ok (AreOccurrencesIn n.symbols 0 (map standing_of c.as_slice.result.now)) (AreOccurrences n) c.occurrences_in.result
    (λ os h. all_occurrences n os (subst (λ (ss : List Standing). AreOccurrencesIn n.symbols 0 ss os) (ap (map standing_of) c.as_slice.ensures ∙ c.in_ok-all.ensures) h))
    c.occurrences_in.ensures
