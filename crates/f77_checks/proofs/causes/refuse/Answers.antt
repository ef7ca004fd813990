use Rattle.std.proofs.Common.{sym, ◌∙◌, Err, [], ◌∷◌, subst}
use Rattle.tree.specs.declared.refusals.Refusal.{Refusal}
use Rattle.tree.specs.declared.refusals.Refused.TheVariants as refused
use Rattle.meaning.specs.Dialect.{fortran77}
use Rattle.f77_grammar.specs.program.Program77.{holds_in}
use Rattle.f77_grammar.specs.syntax.Views.{text_of}
use Rattle.f77_checks.specs.Outcomes.{Passes}
use Rattle.f77_checks.proofs.Passing.{passes_alone, fails_alone}
use Rattle.f77_checks.proofs.causes.refuse.Goals as goal

pub returns-in-None : goal.returns-in-None
returns-in-None c = λ w h.
    passes_alone w (text_of c.args.text.now) c.args.cause (sym c.in-None.is ∙ c.line_at.ensures (holds_in (fortran77 w) (text_of c.args.text.now) c.args.cause) h)

pub returns-in-Some : goal.returns-in-Some
returns-in-Some c = λ w h.
    subst (λ (r : Refusal). Passes w (c.args.cause ∷ []) (text_of c.args.text.now) (Err (refused.Refusal r))) (sym c.at.ensures.refusal)
    (fails_alone w (text_of c.args.text.now) c.args.cause c.in-Some.line (sym c.in-Some.is ∙ c.line_at.ensures (holds_in (fortran77 w) (text_of c.args.text.now) c.args.cause) h))
