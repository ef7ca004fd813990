use Rattle.std.proofs.lemmas.Result.{err_from_is_err_and}
use Rattle.f77_expressions.specs.Symbols.{symbols_of}
use Rattle.f77_statement.proofs.GivenLaws.{given_err}
use Rattle.f77_statement.proofs.RecognitionLaws.{inner_unconditional, inner_refused}
use Rattle.f77_statement.proofs.forms.inner.Goals as goal

pub returns-in_err-made-clause-only : goal.returns-in_err-made-clause-only
returns-in_err-made-clause-only c f h k =
    let p = err_from_is_err_and c.from_residual.result c.from_residual.ensures.1 in
    rw (p.1, p.2) (given_err _ _ _ (c.in_err-made.ensures.only f (inner_unconditional f (symbols_of c.args.text.now) h k)))

pub returns-then-not-is_inner-clause-only : goal.returns-then-not-is_inner-clause-only
returns-then-not-is_inner-clause-only c f h k =
    inner_refused c.in_ok-made.made c.is_inner.result f (c.in_ok-made.ensures.only f (inner_unconditional f (symbols_of c.args.text.now) h k)) c.is_inner.ensures c.if-not-is_inner.true k

pub returns-clause-only : goal.returns-clause-only
returns-clause-only c f h k = c.in_ok-made.ensures.only f (inner_unconditional f (symbols_of c.args.text.now) h k)
