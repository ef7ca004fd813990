use Rattle.f77_tree.proofs.RestLaws.{precede_is}
use Rattle.f77_tree.proofs.rests.Rest.precede.Goals as goal

pub returns : goal.returns
returns c = precede_is c.args.self.pieces.items c.push.new.self.items c.args.piece c.args.self.ifs.items c.in_ok-push.ensures.items
