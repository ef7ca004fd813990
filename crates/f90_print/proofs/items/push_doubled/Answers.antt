use Rattle.std.proofs.Common.{arith}
use Rattle.std.proofs.lemmas.Grind.{common_steps}
use Rattle.f90_print.proofs.ItemTexts.{doubled-each}
use Rattle.f90_print.proofs.items.push_doubled.Goals as goal

pub returns : goal.returns
returns c = let e = doubled-each c.args.constant.now in grind (arith, common_steps)
