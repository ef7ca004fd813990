use Rattle.std.proofs.Common.{sym, ◌∙◌}
use Rattle.f77_grammar.specs.syntax.Views.{text_of}
use Rattle.f77_checks.proofs.Breaches.{no_breach}
use Rattle.f77_checks.proofs.limits.refuse_breach.Goals as goal

pub returns-in-None : goal.returns-in-None
returns-in-None c = no_breach c.args.known.now.constants.width (text_of c.args.text.now) (sym c.in-None.is ∙ c.in_ok-first_breach.ensures)
