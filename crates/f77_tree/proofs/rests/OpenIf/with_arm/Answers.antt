use Rattle.f77_tree.specs.Rests.{pieces_in}
use Rattle.f77_tree.proofs.RestLaws.{arm_before}
use Rattle.f77_tree.proofs.rests.OpenIf.with_arm.Goals as goal

pub returns-clause-arms : goal.returns-clause-arms
returns-clause-arms c =
    arm_before c.args.self.later.items c.push.new.self.items c.args.test c.in_ok-body.body (pieces_in c.args.pieces.items) c.in_ok-push.ensures.items c.in_ok-body.ensures
