use Rattle.std.proofs.Common.{sym, ◌∙◌, subst}
use Rattle.streams.specs.Streams.{Gives}
use Rattle.streams.proofs.Chained.{gives_none}
use Rattle.machine.specs.Texts.{WritesText}
use Rattle.array_values.specs.storage.Stored.{slots_in}
use Rattle.array_values.proofs.storage.ShowLaws.{named_lines, missing_lines}
use Rattle.array_values.proofs.storage.storage.Storage.show_name.Goals as goal

pub returns-in-None-clause-text : goal.returns-in-None-clause-text
returns-in-None-clause-text g c =
    subst (λ t. Gives (g.K.Sink.taken c.args.out.now) t (g.K.Sink.taken c.args.out.now))
    (sym (missing_lines (slots_in c.args.self.now) c.args.name c.in-None.ensures.bounds))
    (gives_none (g.K.Sink.taken c.args.out.now))

pub returns-in-Some-clause-text : goal.returns-in-Some-clause-text
returns-in-Some-clause-text g c =
    let vs = slots_in c.args.self.now in
    let v = c.index.result.now in
    let named = c.in-Some.ensures.named v c.index.ensures in
    subst (λ t. WritesText (g.K.Sink.taken c.args.out.now) t (g.K.Sink.taken c.show.new.out) c.show.result)
    (sym (named_lines vs c.args.name v c.in-Some.slot named c.is_source.result c.is_source.ensures c.if-not-is_source.false))
    (c.show.ensures.text vs c.in-Some.slot named)

pub returns-in-Some-clause-untouched : goal.returns-in-Some-clause-untouched
returns-in-Some-clause-untouched g c = λ e.
    let vs = slots_in c.args.self.now in
    let v = c.index.result.now in
    let named = c.in-Some.ensures.named v c.index.ensures in
    c.show.ensures.untouched vs c.in-Some.slot named
    (sym (named_lines vs c.args.name v c.in-Some.slot named c.is_source.result c.is_source.ensures c.if-not-is_source.false) ∙ e)
