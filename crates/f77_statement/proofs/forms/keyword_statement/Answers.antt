use Rattle.f77_expressions.specs.Symbols.{symbols_of}
use Rattle.f77_statement.proofs.RecognitionLaws.{found_behind, after_keyword, no_keyword}
use Rattle.f77_statement.proofs.forms.keyword_statement.Goals as goal

pub returns-in-Some-clause-found : goal.returns-in-Some-clause-found
returns-in-Some-clause-found c =
    found_behind c.in-Some.keyword (symbols_of c.args.text.now) (symbols_of c.in-Some.rest.now) c.behind_keyword.result c.in-Some.ensures c.behind_keyword.ensures.found

pub returns-in-Some-clause-only : goal.returns-in-Some-clause-only
returns-in-Some-clause-only c f k h =
    c.behind_keyword.ensures.only f (after_keyword c.in-Some.keyword (symbols_of c.args.text.now) (symbols_of c.in-Some.rest.now) f c.in-Some.ensures k h)

pub returns-in-None-clause-only : goal.returns-in-None-clause-only
returns-in-None-clause-only c f k h = no_keyword (symbols_of c.args.text.now) f c.in-None.ensures k h
