use Rattle.std.proofs.Common.{◌≡◌, ℕ, arith, ap, ◌∙◌}
use Rattle.dependence_graph.proofs.nest_references.OccurrenceLaws.{items_more}
use Rattle.dependence_graph.specs.declared.graphs.Place.{Place}
use Rattle.dependence_graph.proofs.nest_references.occurrences.add_items.Goals as goal

abbrev place_at : ℕ → ℕ → Place
place_at n k = record { stmt = n; at = k }

pub loop-at-preserved : goal.loop-at-preserved
loop-at-preserved c = λ s r.
    let round = c.args.round.now in let i = c.loop-at.at in
    items_more c.args.symbols.now round.number s c.args.items.now i c.index-items-at.result c.args.list.now c.loop-at.list c.push.new.self c.in_ok-occurrence.occurrence
    (omega arith) c.index-items-at.is (c.loop-at.invariant s r)
    (c.in_ok-occurrence.ensures.place ∙ ap (λ k. place_at round.number k) c.in_ok-place.ensures)
    (c.in_ok-occurrence.ensures.kept s r) c.in_ok-push.ensures.ok
