use Rattle.array_form.proofs.TextLaws.{constant_else, constant_then}
use Rattle.array_form.proofs.trips.is_constant.Goals as goal

pub returns-then-are_zero : goal.returns-then-are_zero
returns-then-are_zero c = λ n few form.
    constant_then n c.args.form.now c.are_zero.result c.are_unused.result form c.are_zero.ensures c.are_unused.ensures c.if-are_zero.true

pub returns-else-are_zero : goal.returns-else-are_zero
returns-else-are_zero c = λ n few form. constant_else n c.args.form.now c.are_zero.result form c.are_zero.ensures c.if-are_zero.false
