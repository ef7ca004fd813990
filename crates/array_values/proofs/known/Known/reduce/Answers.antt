use Rattle.std.proofs.Common.{◌≡◌, refl, sym, ap, subst, ◌∙◌, arith, rules, pos}
use Rattle.tree.specs.declared.ops.Value.TheVariants.{Int}
use Rattle.tree.specs.declared.gathered.Gathered.TheVariants.{Nothing}
use Rattle.tree.specs.Gathered.{gathered, whole}
use Rattle.tree.specs.Widths.{bits_of}
use Rattle.tree.proofs.Reductions.{whole-of}
use Rattle.meaning.proofs.Widths.{widest}
use Rattle.array_values.specs.Arrays.{reduced_values}
use Rattle.array_values.proofs.Steps.{residual, settled}
use Rattle.array_values.proofs.Numbers.{left_to_reduce, reduce_begun, reduce_fault, reduce_more, reduce_done}
use Rattle.array_values.proofs.known.Known.reduce.Goals as goal

pub loop-value-init : goal.loop-value-init
loop-value-init c =
    let begun = reduce_begun (bits_of c.args.width) c.args.reduction (λ zs. whole-of (bits_of c.args.width) c.args.reduction (gathered c.args.reduction zs) zs refl) c.args.self.now.values in
    subst (λ vs. reduced_values (bits_of c.args.width) c.args.reduction c.args.self.now.values ≡ left_to_reduce (bits_of c.args.width) c.args.reduction Nothing vs) (sym c.as_slice-value-items.ensures) begun

pub returns-in_err-as_number : goal.returns-in_err-as_number
returns-in_err-as_number c =
    residual c.from_residual.ensures.1
    ∙ sym (reduce_fault (bits_of c.args.width) c.args.reduction _ c.loop-value.gathered c.as_slice-value-items.result.now c.loop-value.value-index c.loop-value.invariant
    (Int (pos 0)) c.in_err-as_number.field-0.0 (omega arith) (sym c.in_err-as_number.ensures))

pub loop-value-preserved : goal.loop-value-preserved
loop-value-preserved c =
    let e = reduce_more (bits_of c.args.width) c.args.reduction _ c.loop-value.gathered c.as_slice-value-items.result.now c.loop-value.value-index c.loop-value.invariant
    (Int (pos 0)) c.in_ok-as_number.field-0 (omega arith) (sym c.in_ok-as_number.ensures) in
    rw c.with-gathered.ensures (rw (settled c.in_ok-as_number.field-0 (search rules)) e)

pub reduce-requires : goal.reduce-requires
reduce-requires c = (let most = widest c.args.width in omega (arith, c.bits.ensures))

pub returns : goal.returns
returns c =
    c.reduce.ensures.value ∙ ap (λ n. whole n c.args.reduction c.loop-value.gathered) c.bits.ensures
    ∙ sym (reduce_done (bits_of c.args.width) c.args.reduction _ c.loop-value.gathered c.as_slice-value-items.result.now c.loop-value.value-index c.loop-value.invariant (omega arith))
