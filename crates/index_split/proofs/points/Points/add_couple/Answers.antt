use Rattle.std.proofs.Common.{sym, ◌∙◌}
use Rattle.dependence_graph.proofs.dep_graph.PairLaws.{one_ok}
use Rattle.index_split.proofs.CoupleLaws.{couple_added, separable_has_loop}
use Rattle.index_split.proofs.points.Points.add_couple.Goals as goal

pub add_pair-requires-clause-stands : goal.add_pair-requires-clause-stands
add_pair-requires-clause-stands c =
    separable_has_loop c.args.first.now.forms c.args.second.now.forms c.in-Some.pair
    (sym c.in_ok-pair.ensures ∙ c.in-Some.is)

pub returns-clause-list : goal.returns-clause-list
returns-clause-list c =
    one_ok _ _ c.add_pair.result
    (couple_added c.args.self.now.trip c.args.first.now c.args.second.now c.in-Some.pair c.args.self.now.list c.add_pair.new.self.list
    (c.may_depend.ensures.0 c.if-not-may_depend.false) (sym c.in_ok-pair.ensures ∙ c.in-Some.is))
    c.add_pair.ensures.list
