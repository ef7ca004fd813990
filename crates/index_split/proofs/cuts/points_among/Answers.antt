use Rattle.std.proofs.Common.{sym, subst, List, ℕ}
use Rattle.std.specs.List.Sorted.{IsStrictlyIncreasing}
use Rattle.index_split.specs.Gathered.{Adds}
use Rattle.index_split.specs.Points.{IsPointAmong}
use Rattle.index_split.proofs.CutLaws.{gathered}
use Rattle.index_split.proofs.cuts.points_among.Goals as goal

pub returns-clause-rising : goal.returns-clause-rising
returns-clause-rising c = subst IsStrictlyIncreasing (sym c.from_vec.ensures) c.in_order.ensures.rising

pub returns-clause-points : goal.returns-clause-points
returns-clause-points c =
    gathered c.args.all.now c.args.trip c.add_table.new.self.list c.into_vec.result.items c.in_order.result.items c.from_vec.result
    (subst (λ (old : List ℕ). Adds (IsPointAmong c.args.all.now c.args.all.now c.args.trip) old c.add_table.new.self.list) c.new.ensures
    c.in_ok-add_table.ensures.list)
    c.into_vec.ensures c.in_order.ensures.same c.from_vec.ensures
