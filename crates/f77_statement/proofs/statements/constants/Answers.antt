use Rattle.std.proofs.Common.{[], ◌∷◌, ◌++◌, ap, sym, ◌∙◌, subst}
use Rattle.std.proofs.lemmas.Result.{err_from_is_err_and}
use Rattle.f77_grammar.specs.expressions.Words as words
use Rattle.f77_grammar.specs.statements.Forms.{Form77, separated77, written_definition}
use Rattle.f77_expressions.specs.Views.{words_of}
use Rattle.f77_grammar.specs.declared.syntax.statements.Stmt77.TheVariants as stmts
use Rattle.f77_statement.specs.Parts.{IsFormedOf}
use Rattle.f77_statement.proofs.GivenLaws.{words_err, given_err}
use Rattle.f77_statement.proofs.StatementLaws.{parameter_made}
use Rattle.f77_statement.proofs.statements.constants.Goals as goal

pub returns-in_err-tokens-clause-only : goal.returns-in_err-tokens-clause-only
returns-in_err-tokens-clause-only c f h =
    let p = err_from_is_err_and c.from_residual.result c.from_residual.ensures.1 in
    rw (p.1, p.2) (words_err _ _ (words.Open ∷ (separated77 written_definition h.0 ++ words.Close ∷ [])) (c.in_err-tokens.ensures.only _ h.2))

pub returns-in_err-definitions-clause-only : goal.returns-in_err-definitions-clause-only
returns-in_err-definitions-clause-only c f h =
    let p = err_from_is_err_and c.from_residual-in_err-definitions.result c.from_residual-in_err-definitions.ensures.1 in
    let w = c.in_ok-tokens.ensures.only (words.Open ∷ (separated77 written_definition h.0 ++ words.Close ∷ [])) h.2 in
    rw (p.1, p.2) (given_err _ _ _ (c.in_err-definitions.ensures.only h.0 h.3 (ap words_of c.as_slice.ensures.value ∙ w)))

pub returns-clause-only : goal.returns-clause-only
returns-clause-only c f h =
    let w = c.in_ok-tokens.ensures.only (words.Open ∷ (separated77 written_definition h.0 ++ words.Close ∷ [])) h.2 in
    subst (λ (g : Form77). IsFormedOf (record { statement = stmts.Constants c.in_ok-definitions.definitions; wide = c.has_wide.result; depth = c.in_ok-definitions.depth }) g) (sym h.1)
    (parameter_made h.0 _ c.in_ok-definitions.definitions _ _ (c.in_ok-definitions.ensures.only h.0 h.3 (ap words_of c.as_slice.ensures.value ∙ w)) (ap words_of c.as_slice-2.ensures.value ∙ w) c.has_wide.ensures)
