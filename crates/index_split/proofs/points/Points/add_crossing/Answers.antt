use Rattle.dependence_graph.proofs.dep_graph.PairLaws.{one_ok}
use Rattle.std.proofs.Common.{refl}
use Rattle.index_split.proofs.Adding.{crossing_added}
use Rattle.index_split.proofs.points.Points.add_crossing.Goals as goal

pub returns-clause-list : goal.returns-clause-list
returns-clause-list c =
    one_ok _ _ c.add.result
    (λ h. crossing_added c.args.self.now.trip c.in-Some.sum _ c.args.sides.now.first c.args.sides.now.second c.args.self.now.list
    c.args.self.now.list c.add.new.self.list c.requires.stands c.in-Some.ensures.1 c.requires.opposite c.in-Some.ensures.0 refl h)
    c.add.ensures.list
