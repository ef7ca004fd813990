use Rattle.f90_blocks.specs.Rests.{block_seen}
use Rattle.f90_blocks.proofs.RestLaws.{else_shows}
use Rattle.f90_blocks.proofs.open.Rest.begin_else.Goals as goal

pub returns : goal.returns
returns c later other behind es h =
    else_shows c.args.self.opened.items c.take_if.new.opened.items c.in-Some.later _ c.in-Some.behind later other behind
    es _ c.turned-other.result (block_seen c.args.self.stmts.items) c.in-Some.ensures h c.turned-other.ensures
    c.in_ok-push.ensures.items c.new-stmts.ensures.items
