use Rattle.std.proofs.Common.{ap, sym, ◌∙◌, Result, Ok}
use mathlib.Core.Path.{ap₂}
use Rattle.tree.specs.Steps.{◌>>=◌}
use Rattle.tree.specs.Operators.{apply}
use Rattle.tree.specs.declared.ops.Value.{Value}
use Rattle.tree.specs.declared.ops.Fault.{Fault}
use Rattle.meaning.specs.ArrayValues.{Elements, conform}
use Rattle.array_values.specs.declared.prepared.Prepared.{Prepared}
use Rattle.array_values.specs.Positions.{wider}
use Rattle.array_values.specs.Arrays.{elements_in}
use Rattle.array_values.proofs.Equations.{binary_is}
use Rattle.array_values.proofs.ExtentLaws.{paired_is}
use Rattle.array_values.proofs.prepared.Prepared.binary.Goals as goal

pub returns : goal.returns
returns c =
    let g = elements_in c.args.a in
    let h = elements_in c.args.b in
    let e = ap₂ (λ ms ns. conform ms ns) (sym c.extents.ensures) (sym c.extents-2.ensures) ∙ c.in_ok-check_conform.ensures
    ∙ ap₂ (λ ms ns. let r : Result _ Fault = Ok (wider ms ns) in r) c.extents.ensures c.extents-2.ensures in
    paired_is c.args.op g h e
    ∙ ap (λ (g : Elements Value). let r : Result (Elements Value) Fault = Ok g in r)
    (ap₂ (λ (p q : Prepared). let g : Elements Value = record { extents = wider (elements_in p).extents (elements_in q).extents; at = λ is. (do x ← (elements_in p).at is; y ← (elements_in q).at is; apply c.args.op x y) } in g) (sym c.in_ok-new.ensures.ok) (sym c.in_ok-new-2.ensures.ok)
    ∙ sym (binary_is c.args.op c.in_ok-new.field-0 c.in_ok-new-2.field-0))
