use Rattle.std.proofs.Common.{sym, ◌∙◌}
use Rattle.f77_checks.proofs.Breaches.{found_none, found_some}
use Rattle.f77_checks.proofs.limits.breach_at.Goals as goal

pub returns-in-None : goal.returns-in-None
returns-in-None c = λ w text h. found_none w text c.args.cause (sym c.in-None.is ∙ h)

pub returns-in-Some : goal.returns-in-Some
returns-in-Some c = λ w text h. found_some w text c.args.cause c.in-Some.place (sym c.in-Some.is ∙ h)
