use Rattle.std.proofs.Common.{◌∷◌, ◌++◌, [], ap, ◌∙◌}
use Rattle.std.proofs.lemmas.List.{replicate_more}
use Rattle.components.proofs.rows.empty_rows.Goals as goal

pub loop-number-preserved : goal.loop-number-preserved
loop-number-preserved c =
    c.in_ok-push.ensures.items ∙ (ap (λ z. c.loop-number.rows.items ++ z ∷ []) c.new.ensures
    ∙ (ap (λ z. z ++ [] ∷ []) c.loop-number.invariant ∙ replicate_more c.loop-number._number []))
