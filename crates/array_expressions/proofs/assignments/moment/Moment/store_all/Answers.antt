use Rattle.std.proofs.Common.{sym, ap, subst, [], length, Ok, Err, pos, arith}
use Rattle.tree.specs.declared.ops.Value.{Value}
use Rattle.tree.specs.declared.ops.Value.TheVariants.{Int}
use Rattle.meaning.specs.Store.{Cell}
use Rattle.machine.specs.declared.progress.Left.TheVariants.{Halted}
use Rattle.machine.proofs.Residuals.{residual}
use Rattle.array_values.specs.storage.Slots.{IsWithin}
use Rattle.array_values.specs.storage.Targets.{place_of}
use Rattle.std.specs.List.{AllByRecursion}
use Rattle.array_expressions.specs.assignments.Planning.{ArePlaced}
use Rattle.array_expressions.specs.assignments.Moments.{seen, slots_of}
use Rattle.array_expressions.proofs.assignments.Storing.{element_left, element_more, elements_done, placed_count, put_element, within_at, same_places, places_over}
use Rattle.array_expressions.proofs.assignments.moment.Moment.store_all.Goals as goal

pub loop-at-init : goal.loop-at-init
loop-at-init c = (same_places (slots_of c.args.self.now), λ w ws p input bytes last r h. h)

pub put-requires : goal.put-requires
put-requires c =
    c.loop-at.invariant.0.within _
    (within_at (slots_of c.args.self.now) c.args.plan.now.slot c.as_slice-places.result.now c.loop-at.at 0
    (subst (AllByRecursion (λ k. IsWithin (slots_of c.args.self.now) (place_of c.args.plan.now.slot k))) (sym c.as_slice-places.ensures) c.requires.within) c.loop-at-test.true)

pub returns-in_err-put : goal.returns-in_err-put
returns-in_err-put c = λ w ws p input bytes.
    let vs = slots_of c.args.self.now in
    let slot = c.args.plan.now.slot in
    let q = subst (λ ks. ArePlaced vs slot ws ks c.as_slice-values.result.now) (sym c.as_slice-places.ensures) (subst (ArePlaced vs slot ws c.args.plan.now.writes.places) (sym c.as_slice-values.ensures) p) in
    let d : Cell × Value = (record { name = []; subscripts = [] }, Int (pos 0)) in
    let count = placed_count vs slot ws c.as_slice-places.result.now c.as_slice-values.result.now q in
    rw (residual c.from_residual.ensures.1)
    (c.loop-at.invariant.1 w ws p input bytes (seen c.put.new.self) (Err (Halted c.in_err-put.field-0.0))
    (element_left w ws c.loop-at.at d (omega (arith, count, c.loop-at-test.true)) input (seen c.loop-at.self) (seen c.put.new.self) bytes c.in_err-put.field-0.0
    (put_element w vs slot ws c.as_slice-places.result.now c.as_slice-values.result.now c.loop-at.at d 0 _ q c.loop-at-test.true c.loop-at.self c.put.new.self c.loop-at.invariant.0 (Err c.in_err-put.field-0.0) (c.in_err-put.ensures.stored w) input bytes)))

pub loop-at-preserved : goal.loop-at-preserved
loop-at-preserved c = (
  places_over (slots_of c.args.self.now) (slots_of c.loop-at.self) (slots_of c.put.new.self) c.loop-at.invariant.0 c.put.ensures.kept,
  λ w ws p input bytes last r h.
      let vs = slots_of c.args.self.now in
      let slot = c.args.plan.now.slot in
      let q = subst (λ ks. ArePlaced vs slot ws ks c.as_slice-values.result.now) (sym c.as_slice-places.ensures) (subst (ArePlaced vs slot ws c.args.plan.now.writes.places) (sym c.as_slice-values.ensures) p) in
      let d : Cell × Value = (record { name = []; subscripts = [] }, Int (pos 0)) in
      let count = placed_count vs slot ws c.as_slice-places.result.now c.as_slice-values.result.now q in
      c.loop-at.invariant.1 w ws p input bytes last r
      (element_more w ws c.loop-at.at d (omega (arith, count, c.loop-at-test.true)) input (seen c.loop-at.self) (seen c.put.new.self) bytes last r
      (put_element w vs slot ws c.as_slice-places.result.now c.as_slice-values.result.now c.loop-at.at d 0 _ q c.loop-at-test.true c.loop-at.self c.put.new.self c.loop-at.invariant.0 (Ok tt) (c.in_ok-put.ensures.stored w) input bytes) h),
)

pub returns : goal.returns
returns c = λ w ws p input bytes.
    let vs = slots_of c.args.self.now in
    let count = placed_count vs c.args.plan.now.slot ws c.args.plan.now.writes.places c.args.plan.now.writes.values p in
    c.loop-at.invariant.1 w ws p input bytes (seen c.loop-at.self) (Ok tt)
    (elements_done w ws c.loop-at.at input (seen c.loop-at.self) bytes (omega (arith, count, ap length c.as_slice-places.ensures, c.loop-at-test.false)))
