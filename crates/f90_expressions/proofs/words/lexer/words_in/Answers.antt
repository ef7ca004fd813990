use Rattle.std.proofs.Common.{◌≡◌, ◌<◌, List, length, arith, sym, subst}
use Rattle.std.proofs.lemmas.Result.{err_from_is_err_and}
use Rattle.std.proofs.lemmas.Bool.Decides.{nat_tests}
use Rattle.f90_expressions.specs.declared.words.tokens.Token.{Token}
use Rattle.f90_expressions.specs.words.Symbols.{symbols_of}
use Rattle.f90_expressions.specs.words.Tokens.{words_of}
use Rattle.f90_expressions.proofs.OfWords.WordsLaws.{HasRead, has_none, has_token, shorter, has_all, has_only, gives_error, no_symbols, some_left}
use Rattle.f90_expressions.proofs.words.lexer.words_in.Goals as goal

pub wording-init : goal.wording-init
wording-init c =
    subst (λ (tokens : List Token). HasRead (symbols_of c.args.text.now) (words_of tokens) (symbols_of c.skip-rest.result.now)) (sym c.new-tokens.ensures)
    (has_none (symbols_of c.args.text.now) (symbols_of c.skip-rest.result.now) c.skip-rest.ensures)

pub returns-in_err-token-clause-only : goal.returns-in_err-token-clause-only
returns-in_err-token-clause-only c ws h =
    let p = err_from_is_err_and c.from_residual.result c.from_residual.ensures.1 in
    let l : 0 < length c.wording.rest.now = grind (arith, nat_tests) in
    rw (p.1, p.2) (gives_error c.in_err-token.field-0.0 _ _ _ ws (some_left _ l) c.wording.invariant c.in_err-token.ensures h)

pub wording-smaller : goal.wording-smaller
wording-smaller c =
    shorter c.wording.rest.now c.in_ok-token.tail.now c.skip-rest-in-wording.result.now _ c.in_ok-token.ensures c.skip-rest-in-wording.ensures

pub wording-preserved : goal.wording-preserved
wording-preserved c =
    subst (λ (tokens : List Token). HasRead (symbols_of c.args.text.now) (words_of tokens) (symbols_of c.skip-rest-in-wording.result.now))
    (sym c.in_ok-push.ensures.ok)
    (has_token (symbols_of c.args.text.now) c.wording.tokens (symbols_of c.wording.rest.now) (symbols_of c.in_ok-token.tail.now)
    (symbols_of c.skip-rest-in-wording.result.now) c.in_ok-token.token c.wording.invariant c.in_ok-token.ensures c.skip-rest-in-wording.ensures)

pub returns-clause-found : goal.returns-clause-found
returns-clause-found c =
    let n : length c.wording.rest.now ≡ 0 = grind (arith, nat_tests) in
    has_all _ _ _ (no_symbols _ n) c.wording.invariant

pub returns-clause-only : goal.returns-clause-only
returns-clause-only c ws h =
    let n : length c.wording.rest.now ≡ 0 = grind (arith, nat_tests) in
    has_only _ _ _ ws (no_symbols _ n) c.wording.invariant h
