use Rattle.std.proofs.Common.{refl}
use Rattle.f90_blocks.specs.Rests.{block_seen}
use Rattle.f90_blocks.proofs.RestLaws.{if_shows}
use Rattle.f90_blocks.proofs.open.Rest.begin_if.Goals as goal

pub returns : goal.returns
returns c later other behind es h =
    if_shows c.args.self.opened.items c.take_if.new.opened.items c.in-Some.later c.in-Some.other c.in-Some.behind later
    other behind es _ c.turned-body.result (block_seen c.args.self.stmts.items)
    c.args.line c.push.new.self.items c.reverse.new.self.items c.from_vec-arms.result c.args.test c.in-Some.ensures h
    c.turned-body.ensures c.in_ok-push.ensures.items c.reverse.ensures.items c.from_vec-arms.ensures
    c.in_ok-push-2.ensures.items refl
