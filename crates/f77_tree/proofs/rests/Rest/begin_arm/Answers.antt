use Rattle.f77_tree.proofs.RestLaws.{arm_is}
use Rattle.f77_tree.proofs.rests.Rest.begin_arm.Goals as goal

pub returns : goal.returns
returns c =
    arm_is c.args.self.pieces.items c.new-pieces.result.items c.args.self.ifs.items c.pop.new.self.items c.push.new.self.items c.in-Some.inner c.in_ok-grown.grown c.args.test
    c.new-pieces.ensures.items c.in-Some.ensures.items c.in_ok-push.ensures.items c.in_ok-grown.ensures.arms c.in_ok-grown.ensures.other c.in_ok-grown.ensures.after
