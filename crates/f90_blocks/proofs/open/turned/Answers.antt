use Rattle.f90_blocks.proofs.RestLaws.{turned_is}
use Rattle.f90_blocks.proofs.open.turned.Goals as goal

pub returns : goal.returns
returns c = turned_is c.args.stmts.items c.reverse.new.self.items c.from_vec.result c.reverse.ensures.items
    c.from_vec.ensures
