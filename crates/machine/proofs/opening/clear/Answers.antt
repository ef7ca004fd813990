use Rattle.std.proofs.Common.{◌∙◌, ap, ◌+◌, ◌-◌, arith}
use Rattle.machine.proofs.OpeningLaws.{fill_more}
use Rattle.meaning.specs.Extents.{elements_of}
use Rattle.machine.proofs.opening.clear.Goals as goal

pub loop-variable-preserved : goal.loop-variable-preserved
loop-variable-preserved c =
    fill_more c.args.variables.now c.loop-variable.values c.fill.new.self c.loop-variable.start c.loop-variable.variable-index c.elements.result (c.loop-variable.start + c.elements.result - c.loop-variable.start) c.variable-item.result c.nought.result
    c.loop-variable.invariant (omega arith) c.variable-item.is (c.elements.ensures ∙ ap elements_of c.dims_of.ensures) (omega arith) c.nought.ensures
    (c.fill.ensures.after (λ y h. h))
