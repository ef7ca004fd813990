use Rattle.std.proofs.Common.{◌≤◌, ℕ, [], ◌∷◌, sym, subst, ◌∙◌, arith, take, ◌+◌}
use Rattle.index_split.specs.Gathered.{Adds}
use Rattle.index_split.specs.Points.{IsPointAmong}
use Rattle.index_split.proofs.CoupleLaws.{row_all, row_more}
use Rattle.index_split.proofs.points.Points.add_row.Goals as goal

pub add_couple-requires : goal.add_couple-requires
add_couple-requires c = subst (λ (t : ℕ). t ≤ 2147483646) (sym c.loop-second.invariant.trip) c.requires

pub loop-second-preserved : goal.loop-second-preserved
loop-second-preserved c =
    let us = c.args.all.now in
    let i = c.loop-second.second-index in
    record {
      trip = c.in_ok-add_couple.ensures.trip ∙ c.loop-second.invariant.trip;
      list = subst (λ (t : ℕ). Adds (IsPointAmong (c.args.first.now ∷ []) (take (i + 1) us) t) c.args.self.now.list c.add_couple.new.self.list)
          (sym c.in_ok-add_couple.ensures.trip)
          (row_more c.args.first.now us i _ c.loop-second.self.trip c.args.self.now.list c.loop-second.self.list c.add_couple.new.self.list
          (omega arith) c.second-item.is c.loop-second.invariant.list c.in_ok-add_couple.ensures.list);
    }

pub returns-clause-list : goal.returns-clause-list
returns-clause-list c =
    subst (λ (t : ℕ). Adds (IsPointAmong (c.args.first.now ∷ []) c.args.all.now t) c.args.self.now.list c.loop-second.self.list)
    c.loop-second.invariant.trip
    (row_all c.args.first.now c.args.all.now c.loop-second.second-index c.loop-second.self.trip c.args.self.now.list c.loop-second.self.list (omega arith)
    c.loop-second.invariant.list)
