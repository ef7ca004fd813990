use Rattle.std.proofs.Common.{refl}
use Rattle.nest.specs.View.{nest_of}
use Rattle.index_split.proofs.CutLaws.{all_points, no_points}
use Rattle.index_split.proofs.PieceLaws.{if_both}
use Rattle.index_split.proofs.cuts.cut_points.Goals as goal

pub returns-in-None : goal.returns-in-None
returns-in-None c =
    no_points (nest_of c.args.nest.now) c.in_ok-all.all c.in_ok-all.all refl c.in_ok-all.ensures c.in-None.ensures c.new.result
    c.new.ensures

pub returns : goal.returns
returns c =
    if_both _ _ _ c.points_among.result
    (λ points rising each. all_points (nest_of c.args.nest.now) c.in_ok-all.all c.as_slice.result.now c.as_slice.ensures c.in_ok-all.ensures
    c.in-Some.trip c.in-Some.ensures points rising each)
    c.points_among.ensures.rising c.points_among.ensures.points
