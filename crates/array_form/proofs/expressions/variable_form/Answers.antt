use Rattle.array_form.proofs.AnswerLaws.{variable_ok}
use Rattle.array_form.proofs.expressions.variable_form.Goals as goal

pub returns : goal.returns
returns c =
    variable_ok c.args.a.now c.args.over.now c.args.here.now c.args.item.now c.in_ok-copy_ref.field-0 c.in_ok-plain.plain c.placed.result c.in_ok-copy_ref.ensures c.in_ok-plain.ensures c.placed.ensures
