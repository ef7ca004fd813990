use Rattle.std.proofs.Common.{refl}
use Rattle.f90_blocks.proofs.RestLaws.{one_more}
use Rattle.f90_blocks.proofs.open.Rest.precede.Goals as goal

pub returns : goal.returns
returns c = record {
  block = one_more c.args.self.stmts.items c.push.new.self.items c.args.stmt
      c.in_ok-push.ensures.items;
  round = refl;
}
