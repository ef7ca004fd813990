use Rattle.dependence_graph.proofs.dep_graph.PairLaws.{one_ok}
use Rattle.std.proofs.Common.{◌≡◌, ℕ, subst}
use Rattle.index_split.specs.Gathered.{Adds}
use Rattle.index_split.specs.Points.{IsWithin}
use Rattle.index_split.proofs.Adding.{zero_added}
use Rattle.index_split.proofs.points.Points.add_zero.Goals as goal

pub returns-clause-list : goal.returns-clause-list
returns-clause-list c =
    one_ok _ _ c.add-2.result
    (λ h. zero_added c.args.self.now.trip c.in-Some.at c.saturating_sub.result c.args.with.now c.args.without.now c.args.self.now.list
    c.add.new.self.list c.add-2.new.self.list c.requires.with c.in-Some.ensures.1 c.requires.without c.in-Some.ensures.0
    c.saturating_sub.ensures c.in_ok-add.ensures.list
    (subst (λ (t : ℕ). Adds (IsWithin t (λ x. x ≡ c.in-Some.at)) c.add.new.self.list c.add-2.new.self.list) c.in_ok-add.ensures.trip h))
    c.add-2.ensures.list
