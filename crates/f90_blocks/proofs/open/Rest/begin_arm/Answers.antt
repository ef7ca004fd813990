use Rattle.f90_blocks.specs.Rests.{block_seen}
use Rattle.f90_blocks.proofs.RestLaws.{arm_shows}
use Rattle.f90_blocks.proofs.open.Rest.begin_arm.Goals as goal

pub returns : goal.returns
returns c later other behind es h =
    arm_shows c.args.self.opened.items c.take_if.new.opened.items c.in-Some.later c.in-Some.other c.in-Some.behind later
    other behind es _ c.turned-body.result (block_seen c.args.self.stmts.items) c.push.new.self c.args.test
    c.in-Some.ensures h c.turned-body.ensures c.in_ok-push.ensures.items
    c.in_ok-push-2.ensures.items c.new-stmts.ensures.items
