use Rattle.std.proofs.Common.{sym, subst, ◌++◌}
use Rattle.streams.specs.Streams.{Gives, GivesPart}
use Rattle.streams.proofs.Chained.{part_after, part_before}
use Rattle.meaning.specs.Texts.{subscripts_text}
use Rattle.machine.specs.Storage.{bounds_list}
use Rattle.machine.specs.Texts.{WritesText}
use Rattle.machine.specs.Showing.{subscripts_at, element, held_text}
use Rattle.machine.proofs.Residuals.{residual}
use Rattle.machine.proofs.TextLaws.{both_written}
use Rattle.machine.proofs.ShowLaws.{line_is}
use Rattle.machine.proofs.final_store.write_line.Goals as goal

pub returns-in_err-write_all-clause-text : goal.returns-in_err-write_all-clause-text
returns-in_err-write_all-clause-text g c =
    rw (residual c.from_residual.ensures.1)
    (subst (λ x. GivesPart (g.K.Sink.taken c.args.out.now) x (g.K.Sink.taken c.write_all.new.to)) (sym (line_is (element c.args.name (bounds_list c.args.dims.now) c.args.place) c.args.value))
    (part_before (g.K.Sink.taken c.args.out.now) _ c.args.name ((subscripts_text (subscripts_at (bounds_list c.args.dims.now) c.args.place)) ++ (held_text c.args.value))
    (subst (λ x. GivesPart (g.K.Sink.taken c.args.out.now) x (g.K.Sink.taken c.write_all.new.to)) c.text.ensures.same c.in_err-write_all.ensures.part)))

pub returns-in_err-write_subscripts-clause-text : goal.returns-in_err-write_subscripts-clause-text
returns-in_err-write_subscripts-clause-text g c =
    rw (residual c.from_residual-in_err-write_subscripts.ensures.1)
    (subst (λ x. GivesPart (g.K.Sink.taken c.args.out.now) x (g.K.Sink.taken c.write_subscripts.new.out)) (sym (line_is (element c.args.name (bounds_list c.args.dims.now) c.args.place) c.args.value))
    (part_after (g.K.Sink.taken c.args.out.now) _ _ c.args.name ((subscripts_text (subscripts_at (bounds_list c.args.dims.now) c.args.place)) ++ (held_text c.args.value))
    (subst (λ x. Gives (g.K.Sink.taken c.args.out.now) x (g.K.Sink.taken c.write_all.new.to)) c.text.ensures.same c.in_ok-write_all.ensures.ok)
    (part_before _ _ (subscripts_text (subscripts_at (bounds_list c.args.dims.now) c.args.place)) (held_text c.args.value)
    c.in_err-write_subscripts.ensures.text)))

pub returns-clause-text : goal.returns-clause-text
returns-clause-text g c =
    subst (λ x. WritesText (g.K.Sink.taken c.args.out.now) x (g.K.Sink.taken c.write_held.new.out) c.write_held.result) (sym (line_is (element c.args.name (bounds_list c.args.dims.now) c.args.place) c.args.value))
    (both_written (g.K.Sink.taken c.args.out.now) _ _ c.args.name ((subscripts_text (subscripts_at (bounds_list c.args.dims.now) c.args.place)) ++ (held_text c.args.value)) _
    (subst (λ x. Gives (g.K.Sink.taken c.args.out.now) x (g.K.Sink.taken c.write_all.new.to)) c.text.ensures.same c.in_ok-write_all.ensures.ok)
    (both_written _ _ _ (subscripts_text (subscripts_at (bounds_list c.args.dims.now) c.args.place)) (held_text c.args.value) _
    c.in_ok-write_subscripts.ensures.text
    c.write_held.ensures.text))
