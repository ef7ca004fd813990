use Rattle.std.proofs.Common.{sym, ap, subst, [], length, Ok, Err, arith}
use Rattle.std.specs.List.{AllByRecursion}
use Rattle.meaning.specs.Dialect.{fortran90}
use Rattle.meaning.specs.Store.{Cell}
use Rattle.machine.specs.declared.progress.Left.TheVariants.{Halted}
use Rattle.machine.proofs.Residuals.{residual}
use Rattle.machine.proofs.ReadLaws.{cells_left, cells_more, cells_done}
use Rattle.array_values.specs.storage.Slots.{IsWithin}
use Rattle.array_values.specs.storage.Targets.{place_of}
use Rattle.array_expressions.specs.assignments.Moments.{seen, slots_of}
use Rattle.array_expressions.proofs.assignments.Storing.{within_at, same_places, places_over}
use Rattle.array_expressions.specs.transfers.Reading.{StandAt}
use Rattle.array_expressions.proofs.transfers.Selected.{stand_count, read_element}
use Rattle.array_expressions.proofs.transfers.reading.read_all.Goals as goal

pub loop-k-init : goal.loop-k-init
loop-k-init c = (same_places (slots_of c.args.moment.now), λ cs p bytes last r h. h)

pub read_into-requires : goal.read_into-requires
read_into-requires c =
    c.loop-k.invariant.0.within _
    (within_at (slots_of c.args.moment.now) c.args.target.now.slot c.as_slice-places.result.now c.loop-k.k 0
    (subst (AllByRecursion (λ k. IsWithin (slots_of c.args.moment.now) (place_of c.args.target.now.slot k))) (sym c.as_slice-places.ensures) c.requires) c.loop-k-test.true)

pub returns-in_err-read_into : goal.returns-in_err-read_into
returns-in_err-read_into c = λ cs p bytes.
    let vs = slots_of c.args.moment.now in
    let slot = c.args.target.now.slot in
    let q = subst (StandAt vs slot cs) (sym c.as_slice-places.ensures) p in
    let d : Cell = record { name = []; subscripts = [] } in
    let count = stand_count c.args.width vs slot cs c.as_slice-places.result.now q in
    rw (residual c.from_residual.ensures.1)
    (c.loop-k.invariant.1 cs p bytes (seen c.read_into.new.moment) (Err (Halted c.in_err-read_into.field-0.0))
    (cells_left (fortran90 c.args.width) c.args.line cs c.loop-k.k d (omega (arith, count, c.loop-k-test.true)) c.args.input.now (seen c.loop-k.moment) (seen c.read_into.new.moment) bytes c.in_err-read_into.field-0.0
    (read_element c.args.width vs slot c.args.input.now c.args.line cs c.as_slice-places.result.now c.loop-k.k d 0 q c.loop-k-test.true c.loop-k.moment c.read_into.new.moment c.loop-k.invariant.0 (Err c.in_err-read_into.field-0.0) c.in_err-read_into.ensures.read bytes)))

pub loop-k-preserved : goal.loop-k-preserved
loop-k-preserved c = (
  places_over (slots_of c.args.moment.now) (slots_of c.loop-k.moment) (slots_of c.read_into.new.moment) c.loop-k.invariant.0 c.read_into.ensures.kept,
  λ cs p bytes last r h.
      let vs = slots_of c.args.moment.now in
      let slot = c.args.target.now.slot in
      let q = subst (StandAt vs slot cs) (sym c.as_slice-places.ensures) p in
      let d : Cell = record { name = []; subscripts = [] } in
      let count = stand_count c.args.width vs slot cs c.as_slice-places.result.now q in
      c.loop-k.invariant.1 cs p bytes last r
      (cells_more (fortran90 c.args.width) c.args.line cs c.loop-k.k d (omega (arith, count, c.loop-k-test.true)) c.args.input.now (seen c.loop-k.moment) (seen c.read_into.new.moment) bytes last r
      (read_element c.args.width vs slot c.args.input.now c.args.line cs c.as_slice-places.result.now c.loop-k.k d 0 q c.loop-k-test.true c.loop-k.moment c.read_into.new.moment c.loop-k.invariant.0 (Ok tt) c.in_ok-read_into.ensures.read bytes) h),
)

pub returns : goal.returns
returns c = λ cs p bytes.
    let vs = slots_of c.args.moment.now in
    let count = stand_count c.args.width vs c.args.target.now.slot cs c.args.target.now.selected.places p in
    c.loop-k.invariant.1 cs p bytes (seen c.loop-k.moment) (Ok tt)
    (cells_done (fortran90 c.args.width) c.args.line cs c.loop-k.k c.args.input.now (seen c.loop-k.moment) bytes (omega (arith, count, ap length c.as_slice-places.ensures, c.loop-k-test.false)))
