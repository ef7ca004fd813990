use Rattle.std.proofs.Common.{arith, subst, sym, List, map}
use Rattle.std.specs.Prelude.{All}
use Rattle.tree.specs.View.{reference_of}
use Rattle.tree.specs.declared.exprs.Ref.{Ref}
use Rattle.dependence_graph.specs.nest_graph.Ready.{HaveTrips, IsElement}
use Rattle.nest.specs.View.{loop_of}
use Rattle.nest.specs.declared.parts.Loop.{Loop}
use Rattle.dependence_graph.proofs.nest_ready.RankLaws.{ready_statement, statement_items}
use Rattle.dependence_graph.proofs.nest_ready.ready.is_ready_statement.Goals as goal

pub returns : goal.returns
returns c =
    let s = c.args.standing.now in
    let items = c.in_ok-items.items in (
      λ t.
          let b = c.both_true.ensures.0 t in
          let trips = subst (λ (ls : List Loop). HaveTrips 0 (map loop_of ls)) c.as_slice.ensures (c.have_trips-trips.ensures.0 b.0) in
          let elements = subst (λ (rs : List Ref). All (λ (r : Ref). IsElement (reference_of r)) rs) c.as_slice-2.ensures (c.all_elements-elements.ensures.0 b.1) in
          ready_statement s items c.in_ok-items.ensures (omega arith) trips elements,
      λ h.
          let trips = subst (λ (ls : List Loop). HaveTrips 0 (map loop_of ls)) (sym c.as_slice.ensures) h.trips in
          let elements = subst (λ (rs : List Ref). All (λ (r : Ref). IsElement (reference_of r)) rs) (sym c.as_slice-2.ensures) (statement_items s items c.in_ok-items.ensures h) in
          c.both_true.ensures.1 (c.have_trips-trips.ensures.1 trips, c.all_elements-elements.ensures.1 elements),
    )
