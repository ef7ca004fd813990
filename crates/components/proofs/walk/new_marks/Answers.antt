use Rattle.std.proofs.Common.{◌∷◌, ◌++◌, [], ap, ◌∙◌}
use Rattle.std.proofs.lemmas.List.{replicate_more}
use Rattle.components.specs.declared.walk.NodeState.TheVariants.{New}
use Rattle.components.proofs.walk.new_marks.Goals as goal

pub loop-number-preserved : goal.loop-number-preserved
loop-number-preserved c =
    c.in_ok-push.ensures.items ∙ (ap (λ z. z ++ New ∷ []) c.loop-number.invariant ∙ replicate_more c.loop-number._number New)
