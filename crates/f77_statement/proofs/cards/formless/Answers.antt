use Rattle.f77_expressions.specs.Symbols.{symbols_of}
use Rattle.tree.specs.Causes.{refusal_at}
use Rattle.tree.specs.declared.refusals.Cause.TheVariants as causes
use Rattle.f77_statement.specs.Refusing.{Word}
use Rattle.f77_statement.proofs.CardLaws.{no_word, word_alone, formless_at}
use Rattle.f77_statement.proofs.cards.formless.Goals as goal

pub returns-in-Some-clause-found : goal.returns-in-Some-clause-found
returns-in-Some-clause-found c =
    formless_at (symbols_of c.args.text.now) c.at.result (refusal_at (causes.OutOfProfile c.in-Some.word) c.args.line) c.at.ensures.refusal
    (Word c.in-Some.word c.in-Some.ensures.found)

pub returns-in-Some-clause-only : goal.returns-in-Some-clause-only
returns-in-Some-clause-only c =
    word_alone (symbols_of c.args.text.now) c.at.result c.args.line c.in-Some.word c.at.ensures.refusal c.in-Some.ensures.found c.in-Some.ensures.only

pub returns-in-None-clause-found : goal.returns-in-None-clause-found
returns-in-None-clause-found c =
    formless_at (symbols_of c.args.text.now) c.at-in-None.result (refusal_at causes.Syntax c.args.line) c.at-in-None.ensures.refusal
    (no_word (symbols_of c.args.text.now) c.in-None.ensures.only)
