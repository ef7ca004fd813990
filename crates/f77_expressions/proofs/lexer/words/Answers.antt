use Rattle.std.proofs.Common.{◌≡◌, ◌<◌, length, arith}
use Rattle.std.proofs.lemmas.Result.{err_from_is_err_and}
use Rattle.std.proofs.lemmas.Bool.Decides.{nat_tests}
use Rattle.f77_expressions.proofs.WordsLaws.{shorter, has_all, has_only, gives_error, no_symbols, some_left}
use Rattle.f77_expressions.proofs.lexer.words.Goals as goal

pub returns-in_err-token-clause-only : goal.returns-in_err-token-clause-only
returns-in_err-token-clause-only c ws h =
    let p = err_from_is_err_and c.from_residual.result c.from_residual.ensures.1 in
    let l : 0 < length c.wording.rest.now = grind (arith, nat_tests) in
    rw (p.1, p.2) (gives_error c.in_err-token.field-0.0 _ _ _ ws (some_left _ l) c.wording.invariant c.in_err-token.ensures h)

pub wording-smaller : goal.wording-smaller
wording-smaller c = shorter c.wording.rest.now c.in_ok-token.tail.now _ c.in_ok-token.ensures

pub returns-clause-found : goal.returns-clause-found
returns-clause-found c =
    let n : length c.wording.rest.now ≡ 0 = grind (arith, nat_tests) in
    has_all _ _ _ (no_symbols _ n) c.wording.invariant

pub returns-clause-only : goal.returns-clause-only
returns-clause-only c ws h =
    let n : length c.wording.rest.now ≡ 0 = grind (arith, nat_tests) in
    has_only _ _ _ ws (no_symbols _ n) c.wording.invariant h
