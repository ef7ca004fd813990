use Rattle.std.proofs.Common.{sym, ◌∙◌, arith}
use Rattle.f77_checks.proofs.Indices.{no_line_beyond}
use Rattle.f77_checks.proofs.places.line_at.Goals as goal

pub returns-in-None-get : goal.returns-in-None-get
returns-in-None-get c = λ test h. no_line_beyond test c.args.text.now c.in-Some.place (omega (arith, c.in-None-get.ensures.lookup)) (sym c.in-Some.is ∙ h)
