use Rattle.std.proofs.Common.{[], ◌∷◌, ap, ◌∙◌}
use Rattle.std.proofs.lemmas.Result.{err_from_is_err_and}
use Rattle.f77_grammar.specs.expressions.Words as words
use Rattle.f77_expressions.specs.Views.{words_of}
use Rattle.f77_statement.proofs.GivenLaws.{words_err}
use Rattle.f77_statement.proofs.StatementLaws.{program_only}
use Rattle.f77_statement.proofs.statements.program.Goals as goal

pub returns-in_err-tokens-clause-only : goal.returns-in_err-tokens-clause-only
returns-in_err-tokens-clause-only c f h =
    let p = err_from_is_err_and c.from_residual.result c.from_residual.ensures.1 in
    rw (p.1, p.2) (words_err _ _ (words.Name h.0 ∷ []) (c.in_err-tokens.ensures.only (words.Name h.0 ∷ []) h.2))

pub returns-clause-only : goal.returns-clause-only
returns-clause-only c f h = c.in-None.ensures h.0 (ap words_of c.as_slice.ensures.value ∙ c.in_ok-tokens.ensures.only (words.Name h.0 ∷ []) h.2)

pub returns-in-Some-clause-only : goal.returns-in-Some-clause-only
returns-in-Some-clause-only c f h = program_only _ c.in-Some.name _ _ f (λ vs k. ap words_of c.as_slice.ensures.value ∙ c.in_ok-tokens.ensures.only vs k) c.in-Some.ensures c.titled.ensures h
