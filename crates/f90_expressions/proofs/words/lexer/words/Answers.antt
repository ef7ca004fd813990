use Rattle.std.proofs.lemmas.Result.{err_from_is_err_and}
use Rattle.f90_expressions.proofs.OfWords.CharsLaws.{no_symbols, words_found, words_only}
use Rattle.f90_expressions.proofs.words.lexer.words.Goals as goal

pub returns-in_err-symbols-clause-only : goal.returns-in_err-symbols-clause-only
returns-in_err-symbols-clause-only c ws h =
    let p = err_from_is_err_and c.from_residual.result c.from_residual.ensures.1 in
    rw (p.1, p.2) (no_symbols c.in_err-symbols.field-0.0 c.args.chars.now ws c.in_err-symbols.ensures h)

pub returns-clause-found : goal.returns-clause-found
returns-clause-found c =
    words_found c.args.chars.now c.in_ok-symbols.symbols.items c.as_slice.result.now c.words_in.result c.in_ok-symbols.ensures c.as_slice.ensures.value
    c.words_in.ensures.found

pub returns-clause-only : goal.returns-clause-only
returns-clause-only c ws h =
    c.words_in.ensures.only ws
    (words_only c.args.chars.now c.in_ok-symbols.symbols.items c.as_slice.result.now ws c.in_ok-symbols.ensures c.as_slice.ensures.value h)
