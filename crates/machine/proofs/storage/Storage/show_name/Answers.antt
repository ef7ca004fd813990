use Rattle.std.proofs.Common.{sym, ◌∙◌, subst}
use Rattle.streams.specs.Streams.{Gives}
use Rattle.streams.proofs.Chained.{gives_none}
use Rattle.machine.specs.Stored.{names_in, bounds_here}
use Rattle.machine.specs.Texts.{WritesText}
use Rattle.machine.proofs.SourceNames.{unknown_lines, known_lines}
use Rattle.machine.proofs.storage.Storage.show_name.Goals as goal

pub returns-in-None-clause-text : goal.returns-in-None-clause-text
returns-in-None-clause-text g c =
    let s = c.args.self.now in
    subst (λ t. Gives (g.K.Sink.taken c.args.out.now) t (g.K.Sink.taken c.args.out.now))
    (sym (unknown_lines (names_in s) s.values.items c.args.name c.is_source.result c.is_source.ensures c.in-None.ensures))
    (gives_none (g.K.Sink.taken c.args.out.now))

pub returns-in-Some-clause-text : goal.returns-in-Some-clause-text
returns-in-Some-clause-text g c =
    let s = c.args.self.now in
    subst (λ t. WritesText (g.K.Sink.taken c.args.out.now) t (g.K.Sink.taken c.show_elements.new.out) c.show_elements.result)
    (sym (known_lines (names_in s) s.values.items c.args.name c.is_source.result c.is_source.ensures (bounds_here c.in-Some.variable.now) c.if-not-is_source.false c.in-Some.ensures.bounds))
    c.show_elements.ensures.text

pub returns-in-Some-clause-untouched : goal.returns-in-Some-clause-untouched
returns-in-Some-clause-untouched g c = λ e.
    let s = c.args.self.now in
    c.show_elements.ensures.untouched
    (sym (known_lines (names_in s) s.values.items c.args.name c.is_source.result c.is_source.ensures (bounds_here c.in-Some.variable.now) c.if-not-is_source.false c.in-Some.ensures.bounds) ∙ e)
