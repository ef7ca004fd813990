use Rattle.std.proofs.Common.{arith}
use Rattle.f77_grammar.specs.expressions.Spelling.{is_letter_or_digit}
use Rattle.f77_expressions.specs.Symbols.{symbols_of}
use Rattle.f77_words.proofs.keywords.FrontLaws.{read_more, long_name, name_only}
use Rattle.f77_words.proofs.keywords.fronts.behind_name.Goals as goal

pub returns-then-len-eq-NAME-clause-only : goal.returns-then-len-eq-NAME-clause-only
returns-then-len-eq-NAME-clause-only c rest h =
    long_name (symbols_of c.args.text.now) (symbols_of c.letters.rest.now) (symbols_of c.in-Some.tail.now) rest c.letters.len c.in-Some.field-0-0
    c.letters.invariant.1 c.if-len-eq-NAME.true c.in-Some.ensures.0 c.in-Some.ensures.1 h

pub letters-preserved : goal.letters-preserved
letters-preserved c = (
  omega arith,
  read_more is_letter_or_digit (symbols_of c.args.text.now) (symbols_of c.letters.rest.now) (symbols_of c.in-Some.tail.now) c.letters.len c.in-Some.field-0-0
      c.in-Some.ensures.0 c.in-Some.ensures.1 c.letters.invariant.1,
)

pub returns-clause-only : goal.returns-clause-only
returns-clause-only c rest h = name_only (symbols_of c.args.text.now) (symbols_of c.letters.rest.now) rest c.letters.len c.letters.invariant.1 c.in_default.ensures h
