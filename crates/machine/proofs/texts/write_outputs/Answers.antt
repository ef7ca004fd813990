use Rattle.std.proofs.Common.{◌∙◌, arith}
use Rattle.std.proofs.lemmas.List.{get_or_default}
use Rattle.machine.proofs.Residuals.{residual}
use Rattle.machine.proofs.WriteLaws.{outputs_more, outputs_part}
use Rattle.machine.proofs.texts.write_outputs.Goals as goal

pub returns-in_err-write_output-clause-text : goal.returns-in_err-write_output-clause-text
returns-in_err-write_output-clause-text g c =
    rw (residual c.from_residual.ensures.1)
    (outputs_part c.args.values.now c.loop-value.value-index _ _ _ _ (omega arith) (get_or_default c.args.values.now c.loop-value.value-index _ _ (omega arith)) c.loop-value.invariant.0 c.in_err-write_output.ensures.text)

pub loop-value-preserved : goal.loop-value-preserved
loop-value-preserved g c =
    (outputs_more c.args.values.now c.loop-value.value-index _ _ _ _ (omega arith) (get_or_default c.args.values.now c.loop-value.value-index _ _ (omega arith)) c.loop-value.invariant.0 c.in_ok-write_output.ensures.text, c.in_ok-write_output.ensures.no_fault ∙ c.loop-value.invariant.1)
