use Rattle.std.proofs.Common.{refl, arith, rules}
use Rattle.std.specs.Prelude.{IsTrue}
use Rattle.dependence_graph.specs.nest_graph.Ready.{IsReadyStatement}
use Rattle.nest.specs.statement_loops.Standings.{standing_of}
use Rattle.nest.specs.declared.statement_loops.standings.Standing.{Standing}
use Rattle.dependence_graph.proofs.nest_ready.RankLaws.{list_all, list_more}
use Rattle.dependence_graph.proofs.nest_ready.ready.are_ready.Goals as goal

pub loop-standing-preserved : goal.loop-standing-preserved
loop-standing-preserved c =
    let t : IsTrue c.in_ok-is_ready_statement.field-0 = first_of (cc, search rules) in
    list_more (λ (s : Standing). IsReadyStatement (standing_of s)) c.args.all.now c.loop-standing.standing-index c.standing-item.result (omega arith) c.standing-item.is
    c.loop-standing.invariant (c.in_ok-is_ready_statement.ensures.0 t)

pub returns : goal.returns
returns c = (λ t. list_all (λ (s : Standing). IsReadyStatement (standing_of s)) c.args.all.now c.loop-standing.standing-index (omega arith) c.loop-standing.invariant, λ _. refl)
