use Rattle.std.proofs.Common.{refl}
use Rattle.f90_blocks.proofs.RestLaws.{end_do_shows}
use Rattle.f90_blocks.proofs.open.Rest.end_do.Goals as goal

pub returns : goal.returns
returns c = end_do_shows _ c.args.self.stmts.items c.args.self.opened.items c.args.self.stmts c.in_ok-push.ensures.items
    refl c.new-stmts.ensures.items
