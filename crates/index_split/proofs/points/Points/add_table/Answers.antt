use Rattle.std.proofs.Common.{◌≤◌, ℕ, sym, subst, ◌∙◌, arith, take, ◌+◌}
use Rattle.index_split.specs.Gathered.{Adds}
use Rattle.index_split.specs.Points.{IsPointAmong}
use Rattle.index_split.proofs.CoupleLaws.{table_all, table_more}
use Rattle.index_split.proofs.points.Points.add_table.Goals as goal

pub add_row-requires : goal.add_row-requires
add_row-requires c = subst (λ (t : ℕ). t ≤ 2147483646) (sym c.loop-first.invariant.trip) c.requires

pub loop-first-preserved : goal.loop-first-preserved
loop-first-preserved c =
    let us = c.args.all.now in
    let i = c.loop-first.first-index in
    record {
      trip = c.in_ok-add_row.ensures.trip ∙ c.loop-first.invariant.trip;
      list = subst (λ (t : ℕ). Adds (IsPointAmong (take (i + 1) us) us t) c.args.self.now.list c.add_row.new.self.list)
          (sym c.in_ok-add_row.ensures.trip)
          (table_more us us i _ c.loop-first.self.trip c.args.self.now.list c.loop-first.self.list c.add_row.new.self.list
          (omega arith) c.first-item.is c.loop-first.invariant.list c.in_ok-add_row.ensures.list);
    }

pub returns-clause-list : goal.returns-clause-list
returns-clause-list c =
    subst (λ (t : ℕ). Adds (IsPointAmong c.args.all.now c.args.all.now t) c.args.self.now.list c.loop-first.self.list)
    c.loop-first.invariant.trip
    (table_all c.args.all.now c.args.all.now c.loop-first.first-index c.loop-first.self.trip c.args.self.now.list c.loop-first.self.list (omega arith)
    c.loop-first.invariant.list)
