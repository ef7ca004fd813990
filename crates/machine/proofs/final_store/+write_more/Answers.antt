use Rattle.std.proofs.Common.{sym, subst, [], ◌∷◌, ◌++◌}
use Rattle.std.specs.Prelude.{◌/◌}
use Rattle.streams.specs.Streams.{GivesPart}
use Rattle.streams.proofs.Chained.{part_after, part_before}
use Rattle.tree.specs.View.{bounds_of}
use Rattle.meaning.specs.Store.{size_of}
use Rattle.machine.specs.Texts.{WritesText}
use Rattle.machine.proofs.Residuals.{residual}
use Rattle.machine.proofs.TextLaws.{both_written}
use Rattle.machine.proofs.ShowLaws.{number_text, rest_text, rest_is}
use Rattle.machine.proofs.final_store.+write_more.Goals as goal

pub returns-in_err-write_all-clause-text : goal.returns-in_err-write_all-clause-text
returns-in_err-write_all-clause-text g t c =
    rw (residual c.from_residual.ensures.1)
    (subst (λ x. GivesPart (g.K.Sink.taken c.args.out.now) x (g.K.Sink.taken c.write_all.new.to)) (sym (rest_is c.args.dims.now c.in-Some.dim.now c.in-Some.inner.now c.args.place c.in-Some.ensures.cases.0))
    (part_before (g.K.Sink.taken c.args.out.now) _ (44 ∷ []) ((number_text c.in-Some.dim.now c.args.place) ++ (rest_text c.in-Some.inner.now (c.args.place / size_of (bounds_of c.in-Some.dim.now)))) c.in_err-write_all.ensures.part))

pub returns-in_err-write_subscript-clause-text : goal.returns-in_err-write_subscript-clause-text
returns-in_err-write_subscript-clause-text g t c =
    rw (residual c.from_residual-in_err-write_subscript.ensures.1)
    (subst (λ x. GivesPart (g.K.Sink.taken c.args.out.now) x (g.K.Sink.taken c.write_subscript.new.out)) (sym (rest_is c.args.dims.now c.in-Some.dim.now c.in-Some.inner.now c.args.place c.in-Some.ensures.cases.0))
    (part_after (g.K.Sink.taken c.args.out.now) _ _ (44 ∷ []) ((number_text c.in-Some.dim.now c.args.place) ++ (rest_text c.in-Some.inner.now (c.args.place / size_of (bounds_of c.in-Some.dim.now)))) c.in_ok-write_all.ensures.ok (part_before _ _ (number_text c.in-Some.dim.now c.args.place) (rest_text c.in-Some.inner.now (c.args.place / size_of (bounds_of c.in-Some.dim.now))) c.in_err-write_subscript.ensures.text)))

pub returns-clause-text : goal.returns-clause-text
returns-clause-text g t c =
    subst (λ x. WritesText (g.K.Sink.taken c.args.out.now) x (g.K.Sink.taken c.write_more.new.out) c.write_more.result) (sym (rest_is c.args.dims.now c.in-Some.dim.now c.in-Some.inner.now c.args.place c.in-Some.ensures.cases.0))
    (both_written (g.K.Sink.taken c.args.out.now) _ _ (44 ∷ []) ((number_text c.in-Some.dim.now c.args.place) ++ (rest_text c.in-Some.inner.now (c.args.place / size_of (bounds_of c.in-Some.dim.now)))) _ c.in_ok-write_all.ensures.ok (both_written _ _ _ (number_text c.in-Some.dim.now c.args.place) (rest_text c.in-Some.inner.now (c.args.place / size_of (bounds_of c.in-Some.dim.now))) _ c.in_ok-write_subscript.ensures.text (subst (λ n. WritesText (g.K.Sink.taken c.write_subscript.new.out) (rest_text c.in-Some.inner.now n) (g.K.Sink.taken c.write_more.new.out) c.write_more.result) c.row.ensures c.write_more.ensures.text)))
