use Rattle.std.proofs.Common.{sym}
use Rattle.f77_grammar.proofs.FirstLine.{strip-return, strip-other}
use Rattle.f77_cards.proofs.source.without_carriage_return.Goals as goal

pub returns-in-Some : goal.returns-in-Some
returns-in-Some c = sym (strip-return c.args.line.now c.in-Some.front.now c.in-Some.last.now c.in-Some.ensures.cases.0 c.if-last-eq13.true)

pub returns-in_default : goal.returns-in_default
returns-in_default c = sym (strip-other c.args.line.now c.in-Some.front.now c.in-Some.last.now c.in-Some.ensures.cases.0 c.if-last-eq13.false)
