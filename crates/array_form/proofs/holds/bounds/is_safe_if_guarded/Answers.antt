use Rattle.array_form.proofs.holds.SafeLaws.{guard_there, not_looked_at}
use Rattle.array_form.proofs.holds.bounds.is_safe_if_guarded.Goals as goal

pub returns-then-not-own : goal.returns-then-not-own
returns-then-not-own c = λ n x noted trips i. not_looked_at n x c.args.own.now i c.if-not-own.true

pub returns : goal.returns
returns c = λ n x noted trips i. guard_there n x c.args.own.now c.is_safe.result i c.if-not-own.false (c.is_safe.ensures n x noted trips i)
