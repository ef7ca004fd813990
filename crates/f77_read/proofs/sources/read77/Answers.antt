use Rattle.std.proofs.Common.{map}
use Rattle.std.proofs.lemmas.Result.{err_from_is_err_and}
use Rattle.f77_cards.specs.Card.{card_of}
use Rattle.f77_read.proofs.SourceLaws.{program_of_source, source_refused, only_that_source, only_that_source_refusal, no_other_program, no_other_refusal}
use Rattle.f77_read.proofs.sources.read77.Goals as goal

pub returns-in_err-cards-clause-only_read : goal.returns-in_err-cards-clause-only_read
returns-in_err-cards-clause-only_read c p h =
    let e = err_from_is_err_and c.from_residual.result c.from_residual.ensures.1 in
    rw (e.1, e.2) (no_other_program c.args.width c.args.source.now _ c.in_err-cards.ensures.only_read p h)

pub returns-in_err-cards-clause-only_refused : goal.returns-in_err-cards-clause-only_refused
returns-in_err-cards-clause-only_refused c r h =
    let e = err_from_is_err_and c.from_residual.result c.from_residual.ensures.1 in
    rw (e.1, e.2) (no_other_refusal c.args.width c.args.source.now _ c.in_err-cards.ensures.only_read c.in_err-cards.ensures.only_refused r h)

pub returns-clause-program : goal.returns-clause-program
returns-clause-program c = program_of_source c.args.width c.args.source.now (map card_of c.in_ok-cards.cards) c.build.result c.in_ok-cards.ensures.ok c.build.ensures.ok

pub returns-clause-refused : goal.returns-clause-refused
returns-clause-refused c = source_refused c.args.width c.args.source.now (map card_of c.in_ok-cards.cards) c.build.result c.in_ok-cards.ensures.ok c.build.ensures.refused

pub returns-clause-only_read : goal.returns-clause-only_read
returns-clause-only_read c = only_that_source c.args.width c.args.source.now (map card_of c.in_ok-cards.cards) c.build.result c.in_ok-cards.ensures.ok c.build.ensures.only_read

pub returns-clause-only_refused : goal.returns-clause-only_refused
returns-clause-only_refused c = only_that_source_refusal c.args.width c.args.source.now (map card_of c.in_ok-cards.cards) c.build.result c.in_ok-cards.ensures.ok c.build.ensures.only_refused
