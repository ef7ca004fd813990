use Rattle.std.proofs.Common.{refl}
use Rattle.f77_tree.proofs.RestLaws.{loop_is}
use Rattle.f77_tree.proofs.rests.Rest.begin_loop.Goals as goal

pub returns : goal.returns
returns c =
    loop_is c.args.label c.args.heading.line c.args.heading.var c.args.heading.first c.args.heading.last c.args.heading.step
    c.args.self.pieces.items c.take_loop.new.pieces.items c.push-2.new.self.items c.args.self.ifs.items _ c.args.mark.items c.in_ok-stmts.stmts.items c.from_vec.result
    c.in_ok-stmts.ensures.body c.in_ok-stmts.ensures.rest c.from_vec.ensures refl c.in_ok-push.ensures.items c.in_ok-push-2.ensures.items
