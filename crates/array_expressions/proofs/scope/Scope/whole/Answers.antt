use Rattle.std.proofs.Common.{sym, ap, ◌∙◌, Result, Ok}
use Rattle.tree.specs.Steps.{◌>>=◌}
use Rattle.tree.specs.declared.ops.Value.{Value}
use Rattle.tree.specs.declared.ops.Fault.{Fault}
use Rattle.meaning.specs.ArrayValues.{Array, scalar_array}
use Rattle.array_values.specs.Arrays.{array_in}
use Rattle.array_values.proofs.Steps.{residual, same}
use Rattle.array_values.specs.storage.Stored.{store_in}
use Rattle.array_expressions.proofs.HeldLaws.{whole_kept, scalar_whole}
use Rattle.array_expressions.proofs.scope.Scope.whole.Goals as goal

pub returns-then-not-is_scalar : goal.returns-then-not-is_scalar
returns-then-not-is_scalar c =
    same array_in _ _ c.whole.result
    (whole_kept c.args.locals.now (store_in c.args.self.now.storage.now) c.args.name (sym c.is_scalar.ensures ∙ c.if-not-is_scalar.true))
    c.whole.ensures

pub returns-in_err-value : goal.returns-in_err-value
returns-in_err-value c =
    rw (residual c.from_residual.ensures.1)
    (scalar_whole c.args.locals.now (store_in c.args.self.now.storage.now) c.args.name (sym c.is_scalar.ensures ∙ c.if-not-is_scalar.false)
    ∙ ap (λ (q : Result Value Fault). do v ← q; Ok (scalar_array v)) (sym c.in_err-value.ensures))

pub returns : goal.returns
returns c =
    scalar_whole c.args.locals.now (store_in c.args.self.now.storage.now) c.args.name (sym c.is_scalar.ensures ∙ c.if-not-is_scalar.false)
    ∙ ap (λ (q : Result Value Fault). do v ← q; Ok (scalar_array v)) (sym c.in_ok-value.ensures)
    ∙ ap (λ (a : Array). let r : Result Array Fault = Ok a in r) (sym c.in_ok-scalar.ensures)
