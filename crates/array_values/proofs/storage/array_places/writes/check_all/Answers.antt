use Rattle.std.proofs.Common.{sym, ap, ◌∙◌, arith, pos, ◌+◌, get_or, take, drop, List, Result, Ok}
use Rattle.tree.specs.declared.ops.Value.{Value}
use Rattle.tree.specs.declared.ops.Fault.{Fault}
use Rattle.tree.specs.declared.ops.Value.TheVariants.{Int}
use Rattle.meaning.specs.Dialect.{fortran90}
use Rattle.meaning.specs.ArrayStatements.{storable}
use Rattle.array_values.proofs.Steps.{residual, left_of, left_begun, list_fault, list_more, list_done}
use Rattle.array_values.proofs.storage.ArrayPlaces.Stages.{take_more, take_whole, out_of_range, in_range}
use Rattle.array_values.proofs.storage.array_places.writes.check_all.Goals as goal

pub loop-value-init : goal.loop-value-init
loop-value-init c = left_begun (storable (fortran90 c.args.width)) c.args.values.now

pub returns-in_err-check_range : goal.returns-in_err-check_range
returns-in_err-check_range c =
    let v = get_or c.args.values.now c.loop-value.value-index (Int (pos 0)) in
    rw (residual c.from_residual.ensures.1)
    (list_fault (storable (fortran90 c.args.width)) _ (take c.loop-value.value-index c.args.values.now) c.args.values.now c.loop-value.value-index c.loop-value.invariant (Int (pos 0))
    c.in_err-check_range.field-0.0 (omega arith) (out_of_range c.args.width v c.in_err-check_range.field-0.0 c.in_err-check_range.ensures))

pub loop-value-preserved : goal.loop-value-preserved
loop-value-preserved c =
    let v = get_or c.args.values.now c.loop-value.value-index (Int (pos 0)) in
    list_more (storable (fortran90 c.args.width)) _ (take c.loop-value.value-index c.args.values.now) c.args.values.now c.loop-value.value-index c.loop-value.invariant (Int (pos 0))
    v (omega arith) (in_range c.args.width v c.in_ok-check_range.field-0 c.in_ok-check_range.ensures)
    ∙ ap (λ vs. left_of (storable (fortran90 c.args.width)) vs (drop (c.loop-value.value-index + 1) c.args.values.now)) (sym (take_more c.args.values.now c.loop-value.value-index (Int (pos 0)) (omega arith)))

pub returns : goal.returns
returns c =
    list_done (storable (fortran90 c.args.width)) _ (take c.loop-value.value-index c.args.values.now) c.args.values.now c.loop-value.value-index c.loop-value.invariant (omega arith)
    ∙ ap (λ (vs : List Value). let r : Result (List Value) Fault = Ok vs in r) (take_whole c.args.values.now c.loop-value.value-index (omega arith))
