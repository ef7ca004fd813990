use Rattle.std.proofs.Common.{ap, sym, ◌∙◌}
use Rattle.generator.specs.Decks.{deck_of}
use Rattle.tool.specs.Counts.{counts_text}
use Rattle.tool.proofs.Summaries.{summary_passed_on, translated_as}
use Rattle.tool.proofs.making.make.Goals as goal

pub returns-clause-summarises : goal.returns-clause-summarises
returns-clause-summarises g c =
    summary_passed_on (deck_of c.args.nests) (g.K.Sink.taken c.args.out.now) (g.K.Sink.taken c.summarise-outcome.new.out) (g.K.Sink.taken c.passed_on.new.out)
    (g.K.Sink.faults c.args.out.now) (g.K.Sink.faults c.summarise-outcome.new.out) (g.K.Sink.faults c.passed_on.new.out)
    c.summarise-outcome.result c.passed_on.result c.passed_on.ensures.taken c.summarise-outcome.ensures.later c.passed_on.ensures.later
    c.passed_on.ensures.outcome c.passed_on.ensures.fault
    (c.summarise-outcome.ensures.summarises (deck_of c.args.nests)
    (translated_as (deck_of c.args.nests) c.as_slice.result.now c.in-Ok.deck.items c.as_slice.ensures.value c.in-Ok.ensures.deck
    c.as_slice-4.result.now c.in-Ok-translation_of.translation.items c.as_slice-4.ensures.value c.in-Ok-translation_of.ensures.translation)
    (c.as_slice-3.ensures.value ∙ c.in-Ok-counts.ensures ∙ ap counts_text (c.as_slice-2.ensures.value ∙ sym c.as_slice-4.ensures.value)))
