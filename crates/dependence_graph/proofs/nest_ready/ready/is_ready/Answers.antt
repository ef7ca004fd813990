use Rattle.std.proofs.Common.{arith, subst, sym, ap, ◌∙◌, List, map}
use Rattle.std.specs.Prelude.{All}
use Rattle.tree.specs.View.{reference_of}
use Rattle.tree.specs.declared.exprs.Ref.{Ref}
use Rattle.components.specs.Lists.{Distinct}
use Rattle.dependence_graph.specs.nest_graph.Ready.{IsReadyStatement}
use Rattle.nest.specs.View.{nest_of}
use Rattle.nest.specs.statement_loops.Standings.{standing_of}
use Rattle.nest.specs.declared.statement_loops.standings.Standing.{Standing}
use Rattle.dependence_graph.specs.nest_ready.Gathered.{HaveSameRank, all_references}
use Rattle.dependence_graph.proofs.nest_ready.RankLaws.{each_rank, each_unmapped, ready_nest}
use Rattle.std.proofs.lemmas.List.Elements.{All-same}
use Rattle.dependence_graph.proofs.nest_ready.ready.is_ready.Goals as goal

abbrev HaveRanks : List Ref → Type 0
HaveRanks xs = All (λ (q : Ref). All (λ (r : Ref). HaveSameRank (reference_of q) (reference_of r)) xs) xs

abbrev AreReady : List Standing → Type 0
AreReady xs = All (λ (s : Standing). IsReadyStatement (standing_of s)) xs

pub returns : goal.returns
returns c =
    let n = nest_of c.args.nest.now in
    let all = c.in_ok-all.all in
    let items = c.in_ok-items.items in
    let numbers = c.in_ok-numbers.numbers in
    let gathered = c.in_ok-items.ensures ∙ ap (λ (xs : List Standing). all_references (map standing_of xs)) c.as_slice.ensures in (
      λ t.
          let b = c.all_true.ensures.0 t in
          ready_nest n all numbers items c.in_ok-all.ensures c.in_ok-numbers.ensures gathered (omega arith)
          (subst Distinct c.as_slice-2.ensures (c.are_distinct-distinct.ensures.0 b.0))
          (subst HaveRanks c.as_slice-3.ensures (c.have_ranks-ranks.ensures.0 b.1))
          (subst AreReady c.as_slice-4.ensures (c.in_ok-ready.ensures.0 b.2)),
      λ h.
          c.all_true.ensures.1 (
            c.are_distinct-distinct.ensures.1 (subst Distinct (sym c.as_slice-2.ensures) (subst Distinct (sym c.in_ok-numbers.ensures) h.loops)),
            c.have_ranks-ranks.ensures.1 (subst HaveRanks (sym c.as_slice-3.ensures) (each_rank n items (gathered ∙ ap all_references c.in_ok-all.ensures) h.ranks)),
            c.in_ok-ready.ensures.1 (subst AreReady (sym c.as_slice-4.ensures) (each_unmapped all (All-same IsReadyStatement (map standing_of all) _ c.in_ok-all.ensures h.statements))),
          ),
    )
