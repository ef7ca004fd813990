use Rattle.std.proofs.Common.{arith}
use Rattle.std.proofs.lemmas.Grind.{common_steps}
use Rattle.f90_print.proofs.StatementTexts.{continue-text}
use Rattle.f90_print.proofs.forms.print_continue.Goals as goal

pub returns : goal.returns
returns c = let e = continue-text c.args.label (omega arith) in grind (arith, common_steps)
