use Rattle.std.proofs.Common.{sym, ap, ◌∙◌, subst, pos, length, arith}
use Rattle.std.specs.List.{flat_map, range_with_len}
use Rattle.std.proofs.lemmas.List.FromFn.{length-range_with_len}
use Rattle.std.proofs.lemmas.List.{get_or_default}
use Rattle.streams.specs.Streams.{Gives, GivesPart}
use Rattle.tree.specs.declared.ops.Value.TheVariants.{Int}
use Rattle.meaning.specs.Texts.{final_line}
use Rattle.machine.specs.Storage.{bounds_list}
use Rattle.machine.specs.Showing.{element, value_line}
use Rattle.machine.proofs.Residuals.{residual}
use Rattle.machine.proofs.ElementsAt.{lines_held}
use Rattle.machine.proofs.LineLaws.{range_more, range_part, lines_all}
use Rattle.machine.proofs.final_store.write_lines.Goals as goal

pub returns-in_err-write_line-clause-text : goal.returns-in_err-write_line-clause-text
returns-in_err-write_line-clause-text g c = λ s e.
    let bs = bounds_list c.args.dims.now in
    let line = value_line c.args.name bs c.args.values.now in
    rw (residual c.from_residual.ensures.1)
    (subst (λ x. GivesPart (g.K.Sink.taken c.args.out.now) x (g.K.Sink.taken c.write_line.new.out))
    (sym (lines_held c.args.name bs c.args.values.now s e
    ∙ ap (λ n. flat_map line (range_with_len 0 n)) (sym c.requires)))
    (range_part line (length c.args.values.now) c.loop-place.place _ _ _ (omega arith) c.loop-place.invariant.0
    (subst (λ v. GivesPart (g.K.Sink.taken c.loop-place.out) (final_line (element c.args.name bs c.loop-place.place) v)
    (g.K.Sink.taken c.write_line.new.out)) (get_or_default c.args.values.now c.loop-place.place _ (Int (pos 0)) (omega arith))
    c.in_err-write_line.ensures.text)))

pub loop-place-preserved : goal.loop-place-preserved
loop-place-preserved g c =
    let bs = bounds_list c.args.dims.now in
    let line = value_line c.args.name bs c.args.values.now in (
      range_more line (length c.args.values.now) c.loop-place.place _ _ _ (omega arith) c.loop-place.invariant.0
          (subst (λ v. Gives (g.K.Sink.taken c.loop-place.out) (final_line (element c.args.name bs c.loop-place.place) v)
          (g.K.Sink.taken c.write_line.new.out)) (get_or_default c.args.values.now c.loop-place.place _ (Int (pos 0)) (omega arith))
          c.in_ok-write_line.ensures.text),
      c.in_ok-write_line.ensures.no_fault ∙ c.loop-place.invariant.1,
      λ e. (let n = ap length e in absurd (omega (arith, n, c.loop-place-test.true))),
    )

pub returns-clause-text : goal.returns-clause-text
returns-clause-text g c = λ s e.
    let bs = bounds_list c.args.dims.now in
    let line = value_line c.args.name bs c.args.values.now in
    subst (λ x. Gives (g.K.Sink.taken c.args.out.now) x (g.K.Sink.taken c.loop-place.out))
    (sym (lines_held c.args.name bs c.args.values.now s e
    ∙ ap (λ n. flat_map line (range_with_len 0 n)) (sym c.requires)))
    (lines_all line (range_with_len 0 (length c.args.values.now)) c.loop-place.place _ _
    (omega (arith, length-range_with_len 0 (length c.args.values.now))) c.loop-place.invariant.0)
