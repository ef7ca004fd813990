use Rattle.std.proofs.Common.{ap, sym, ◌∙◌, ℤ, map, List, Result, Ok}
use Rattle.tree.specs.Steps.{◌>>=◌}
use Rattle.tree.specs.declared.ops.Value.{Value}
use Rattle.tree.specs.declared.ops.Fault.{Fault}
use Rattle.meaning.specs.ArrayValues.{Elements, reshaped}
use Rattle.meaning.specs.Sections.{not_negative}
use Rattle.array_values.specs.Arrays.{array_in}
use Rattle.array_values.proofs.Equations.{known_is}
use Rattle.array_expressions.proofs.arrays.reshaped.Goals as goal

pub returns : goal.returns
returns c =
    ap (λ (q : Result (List ℤ) Fault). do zs ← q; reshaped (map not_negative zs) (array_in c.args.array)) c.in_ok-numbers.ensures
    ∙ ap (λ ns. reshaped ns (array_in c.args.array)) (sym (c.in_ok-extents.ensures ∙ ap (map not_negative) c.as_slice.ensures))
    ∙ c.in_ok-reshaped.ensures
    ∙ ap (λ (g : Elements Value). let r : Result (Elements Value) Fault = Ok g in r) (sym (known_is c.in_ok-reshaped.field-0))
