use Rattle.std.proofs.Common.{◌≡◌, ℕ, arith, subst}
use Rattle.dependence_graph.specs.nest_graph.References.{references_of}
use Rattle.nest.specs.statement_loops.Standings.{standing_of}
use Rattle.dependence_graph.specs.nest_references.Added.{IsAdded}
use Rattle.dependence_graph.proofs.nest_references.OccurrenceLaws.{standings_more}
use Rattle.dependence_graph.proofs.nest_references.occurrences.occurrences_in.Goals as goal

pub loop-at-preserved : goal.loop-at-preserved
loop-at-preserved c =
    let symbols = c.args.symbols.now in let s = c.index-all-at.result in
    standings_more symbols c.args.all.now c.loop-at.at s c.loop-at.list c.add_statement.new.list (omega arith) c.index-all-at.is c.loop-at.invariant
    (subst (λ (n : ℕ). IsAdded symbols n (standing_of s) (references_of (standing_of s)) c.loop-at.list c.add_statement.new.list) c.in_ok-number.ensures c.in_ok-add_statement.ensures)
