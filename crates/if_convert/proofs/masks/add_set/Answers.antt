use Rattle.std.proofs.Common.{ap, ◌∙◌}
use Rattle.tree.specs.Plain.{Logic}
use Rattle.tree.proofs.Equations.{expression_of-truth}
use Rattle.if_convert.specs.Masks.{sets}
use Rattle.if_convert.proofs.BodyLaws.{on_ok, pushed}
use Rattle.if_convert.proofs.masks.add_set.Goals as goal

pub returns : goal.returns
returns c =
    on_ok c.push.result (λ now.
    pushed c.args.made.now c.push.new.self c.in_ok-sets.field-0 (sets c.args.line c.args.guard c.args.number (Logic c.args.value))
    (c.in_ok-sets.ensures ∙ ap (sets c.args.line c.args.guard c.args.number) (expression_of-truth c.args.value)) now) c.push.ensures.ok
