use Rattle.std.proofs.Common.{refl, sym, ◌∙◌}
use Rattle.machine.specs.Moments.{seen_at}
use Rattle.machine.proofs.Residuals.{residual}
use Rattle.machine.proofs.ReadLaws.{no_place, that_place, some_word}
use Rattle.machine.proofs.progress.Progress.take_word.Goals as goal

pub returns-in_err-start : goal.returns-in_err-start
returns-in_err-start c = λ ds s.
    rw (residual c.from_residual.ensures.1)
    (no_place c.args.line c.args.input.now (seen_at ds s c.args.self.now) c.value_place.result c.value_place.ensures.place
    c.in_err-start.field-0.0 (sym c.in_err-start.was ∙ c.at.ensures))

pub returns : goal.returns
returns c = λ ds s.
    let m = seen_at ds s c.args.self.now in
    some_word c.args.input.now c.args.line m _ c.in_ok-start.start _
    (that_place c.args.line c.args.input.now m c.value_place.result c.value_place.ensures.place c.in_ok-start.start
    (sym c.in_ok-start.was ∙ c.at.ensures))
    c.word_end-end.ensures.word c.word_end-end.ensures.after refl refl refl refl
