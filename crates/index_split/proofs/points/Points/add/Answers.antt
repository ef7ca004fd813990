use Rattle.index_split.proofs.Adding.{adds_push}
use Rattle.index_split.proofs.points.Points.add.Goals as goal

pub returns-in_ok-push-clause-list : goal.returns-in_ok-push-clause-list
returns-in_ok-push-clause-list c =
    adds_push c.args.self.now.trip c.args.point c.args.self.now.list c.push.new.self c.if-point-ge1.true c.if-point-self.true
    c.in_ok-push.ensures.ok
