use Rattle.std.proofs.Common.{[], ◌∷◌, ◌++◌}
use Rattle.streams.proofs.Chained.{part_after, part_before}
use Rattle.meaning.specs.Texts.{value_text}
use Rattle.machine.proofs.Residuals.{residual}
use Rattle.machine.proofs.TextLaws.{both_written}
use Rattle.machine.proofs.ShowLaws.{written}
use Rattle.machine.proofs.final_store.write_held.Goals as goal

pub returns-in_err-write_all-clause-text : goal.returns-in_err-write_all-clause-text
returns-in_err-write_all-clause-text g c =
    rw (residual c.from_residual.ensures.1)
    (part_before (g.K.Sink.taken c.args.out.now) _ (32 ∷ 61 ∷ 32 ∷ []) (value_text c.args.value ++ 10 ∷ []) c.in_err-write_all.ensures.part)

pub returns-in_err-write_value-clause-text : goal.returns-in_err-write_value-clause-text
returns-in_err-write_value-clause-text g c =
    rw (residual c.from_residual-in_err-write_value.ensures.1)
    (part_after (g.K.Sink.taken c.args.out.now) _ _ (32 ∷ 61 ∷ 32 ∷ []) (value_text c.args.value ++ 10 ∷ []) c.in_ok-write_all.ensures.ok
    (part_before _ _ (value_text c.args.value) (10 ∷ []) c.in_err-write_value.ensures.text))

pub returns-clause-text : goal.returns-clause-text
returns-clause-text g c =
    both_written (g.K.Sink.taken c.args.out.now) _ _ (32 ∷ 61 ∷ 32 ∷ []) (value_text c.args.value ++ 10 ∷ []) _ c.in_ok-write_all.ensures.ok
    (both_written _ _ _ (value_text c.args.value) (10 ∷ []) _ c.in_ok-write_value.ensures.text
    (written _ _ (10 ∷ []) _ c.write_all-2.ensures.ok c.write_all-2.ensures.part))
