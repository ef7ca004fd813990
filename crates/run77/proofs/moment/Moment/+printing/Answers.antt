use Rattle.std.proofs.Common.{◌≡◌, refl, ◌∙◌, subst, ◌+◌, ◌-◌, Result, Ok, Err, Some, ◌++◌, arith, rules}
use Rattle.streams.specs.Streams.{Gives, GivesPart}
use Rattle.streams.specs.declared.errors.WriteFault.{WriteFault}
use Rattle.machine.specs.Texts.{WritesText}
use Rattle.meaning.specs.Dialect.{fortran77}
use Rattle.meaning.specs.Run.{repeated, turn, prints_items, increases}
use Rattle.machine.specs.declared.progress.Left.TheVariants.{Halted}
use Rattle.machine.specs.Acts.{Runs}
use Rattle.machine.specs.Loops.{BeginsLoop}
use Rattle.machine.specs.Printing.{plain_items}
use Rattle.machine.proofs.Residuals.{residual, settled}
use Rattle.machine.proofs.ItemLaws.{one_runs, turns_run, text_runs, items_left, items_more, items_done}
use Rattle.machine.proofs.TurnLaws.{Extends-prints_items, turn_cut, turn_left, turn_stuck, turn_done, at_turn, no_turn}
use Rattle.run77.specs.Moments.{seen}
use Rattle.machine.proofs.Telling.{still, kept, both, given, taken_whole}
use Rattle.run77.proofs.moment.Moment.+printing.Goals as goal

pub print_item-returns-in_err-write_all-in-Text-clause-run : goal.print_item-returns-in_err-write_all-in-Text-clause-run
print_item-returns-in_err-write_all-in-Text-clause-run g t c = λ input.
    rw (residual c.from_residual.ensures.1)
    (text_runs (fortran77 c.args.width) c.args.line input (seen c.args.self.now) (g.K.Sink.taken c.args.out.now) (g.K.Sink.taken c.write_all.new.to) (Err c.in_err-write_all-in-Text.field-0.0) c.args.item.now c.in-Text.text c.in-Text.is
    (subst (λ t. GivesPart (g.K.Sink.taken c.args.out.now) t (g.K.Sink.taken c.write_all.new.to)) c.as_slice.ensures c.in_err-write_all-in-Text.ensures.part))

pub print_item-returns-in_ok-write_all-in-Text-clause-run : goal.print_item-returns-in_ok-write_all-in-Text-clause-run
print_item-returns-in_ok-write_all-in-Text-clause-run g t c = λ input.
    text_runs (fortran77 c.args.width) c.args.line input (seen c.args.self.now) (g.K.Sink.taken c.args.out.now) (g.K.Sink.taken c.write_all.new.to) (Ok tt) c.args.item.now c.in-Text.text c.in-Text.is
    (subst (λ t. Gives (g.K.Sink.taken c.args.out.now) t (g.K.Sink.taken c.write_all.new.to)) c.as_slice.ensures c.in_ok-write_all-in-Text.ensures.ok)

pub print_item-returns-in-One-clause-run : goal.print_item-returns-in-One-clause-run
print_item-returns-in-One-clause-run g t c = λ input.
    one_runs (fortran77 c.args.width) c.args.line input (seen c.args.self.now) (seen c.args.self.now) (g.K.Sink.taken c.args.out.now) (g.K.Sink.taken c.print_value.new.out) c.print_value.result c.args.item.now c.in-One.expr c.in-One.is (c.print_value.ensures.run c.args.width input)

pub print_item-returns-in_err-turns-in-Turns-clause-run : goal.print_item-returns-in_err-turns-in-Turns-clause-run
unfolding BeginsLoop
print_item-returns-in_err-turns-in-Turns-clause-run g t c = λ input.
    rw (residual c.from_residual-in_err-turns-in-Turns.ensures.1)
    (turns_run (fortran77 c.args.width) c.args.line input (seen c.args.self.now) (seen c.begin_loop.new.self) (g.K.Sink.taken c.args.out.now) (g.K.Sink.taken c.args.out.now) (Err (Halted c.in_err-turns-in-Turns.field-0.0)) c.args.item.now c.in-Turns.items c.in-Turns.name c.in-Turns.first c.in-Turns.last c.in-Turns.step c.in-Turns.is
    (c.in_err-turns-in-Turns.ensures (λ limit. prints_items (fortran77 c.args.width) limit (plain_items c.in-Turns.items) c.args.line) input (g.K.Sink.taken c.args.out.now)))

pub print_item-loop-init : goal.print_item-loop-init
unfolding BeginsLoop
print_item-loop-init g t c = (
  λ input now last r h.
      turns_run (fortran77 c.args.width) c.args.line input (seen c.args.self.now) last (g.K.Sink.taken c.args.out.now) now r c.args.item.now c.in-Turns.items c.in-Turns.name c.in-Turns.first c.in-Turns.last c.in-Turns.step c.in-Turns.is
      (c.in_ok-turns-in-Turns.ensures (λ limit. prints_items (fortran77 c.args.width) limit (plain_items c.in-Turns.items) c.args.line) input (g.K.Sink.taken c.args.out.now) now last r
      (subst (λ n. Runs (λ limit. repeated n (turn (fortran77 c.args.width) limit c.args.line c.in-Turns.name c.in_ok-turns-in-Turns.turns.step (prints_items (fortran77 c.args.width) limit (plain_items c.in-Turns.items) c.args.line))) input (seen c.begin_loop.new.self) (g.K.Sink.taken c.args.out.now) last now r) (let e : c.in_ok-turns-in-Turns.turns.count - 0 ≡ c.in_ok-turns-in-Turns.turns.count = omega arith in e) h)),
  refl,
  λ input bytes. still _ bytes
      (λ now last r h.
      turns_run (fortran77 c.args.width) c.args.line input (seen c.args.self.now) last (Some bytes) now r c.args.item.now c.in-Turns.items c.in-Turns.name c.in-Turns.first c.in-Turns.last c.in-Turns.step c.in-Turns.is
      (c.in_ok-turns-in-Turns.ensures (λ limit. prints_items (fortran77 c.args.width) limit (plain_items c.in-Turns.items) c.args.line) input (Some bytes) now last r
      (subst (λ n. Runs (λ limit. repeated n (turn (fortran77 c.args.width) limit c.args.line c.in-Turns.name c.in_ok-turns-in-Turns.turns.step (prints_items (fortran77 c.args.width) limit (plain_items c.in-Turns.items) c.args.line))) input (seen c.begin_loop.new.self) (Some bytes) last now r) (let e : c.in_ok-turns-in-Turns.turns.count - 0 ≡ c.in_ok-turns-in-Turns.turns.count = omega arith in e) h))),
)

pub print_item-returns-in_err-count_step-in-Turns-clause-run : goal.print_item-returns-in_err-count_step-in-Turns-clause-run
print_item-returns-in_err-count_step-in-Turns-clause-run g t c = λ input.
    rw (residual c.from_residual-in_err-count_step-in-Turns.ensures.1)
    (c.loop.invariant.0 input (g.K.Sink.taken c.loop.out) (seen c.count_step.new.self) (Err (Halted c.in_err-count_step-in-Turns.field-0.0))
    (at_turn (fortran77 c.args.width) c.args.line c.in-Turns.name c.in_ok-turns-in-Turns.turns.step (λ limit. prints_items (fortran77 c.args.width) limit (plain_items c.in-Turns.items) c.args.line) input (c.in_ok-turns-in-Turns.turns.count - c.loop.counter) (c.in_ok-turns-in-Turns.turns.count - (c.loop.counter + 1)) (seen c.loop.self) (seen c.count_step.new.self) (g.K.Sink.taken c.loop.out) (g.K.Sink.taken c.loop.out) (Err (Halted c.in_err-count_step-in-Turns.field-0.0)) (omega (arith, c.loop-test.true))
    (turn_cut (fortran77 c.args.width) c.args.line c.in-Turns.name c.in_ok-turns-in-Turns.turns.step (λ limit. prints_items (fortran77 c.args.width) limit (plain_items c.in-Turns.items) c.args.line) input (c.in_ok-turns-in-Turns.turns.count - (c.loop.counter + 1)) (seen c.loop.self) (seen c.count_step.new.self) (g.K.Sink.taken c.loop.out) c.in_err-count_step-in-Turns.field-0.0 c.in_err-count_step-in-Turns.ensures.counted)))

pub print_item-returns-in_err-print_items-in-Turns-clause-run : goal.print_item-returns-in_err-print_items-in-Turns-clause-run
print_item-returns-in_err-print_items-in-Turns-clause-run g t c = λ input.
    rw (residual c.from_residual-in_err-print_items-in-Turns.ensures.1)
    (c.loop.invariant.0 input (g.K.Sink.taken c.print_items.new.out) (seen c.print_items.new.self) (Err c.in_err-print_items-in-Turns.field-0.0)
    (at_turn (fortran77 c.args.width) c.args.line c.in-Turns.name c.in_ok-turns-in-Turns.turns.step (λ limit. prints_items (fortran77 c.args.width) limit (plain_items c.in-Turns.items) c.args.line) input (c.in_ok-turns-in-Turns.turns.count - c.loop.counter) (c.in_ok-turns-in-Turns.turns.count - (c.loop.counter + 1)) (seen c.loop.self) (seen c.print_items.new.self) (g.K.Sink.taken c.loop.out) (g.K.Sink.taken c.print_items.new.out) (Err c.in_err-print_items-in-Turns.field-0.0) (omega (arith, c.loop-test.true))
    (turn_left (fortran77 c.args.width) c.args.line c.in-Turns.name c.in_ok-turns-in-Turns.turns.step (λ limit. prints_items (fortran77 c.args.width) limit (plain_items c.in-Turns.items) c.args.line) input (c.in_ok-turns-in-Turns.turns.count - (c.loop.counter + 1)) (seen c.loop.self) (seen c.count_step.new.self) (seen c.print_items.new.self) (g.K.Sink.taken c.loop.out) (g.K.Sink.taken c.print_items.new.out) c.in_err-print_items-in-Turns.field-0.0 (Extends-prints_items (fortran77 c.args.width) (plain_items c.in-Turns.items) c.args.line) c.in_ok-count_step-in-Turns.ensures.counted (c.in_err-print_items-in-Turns.ensures.run input))))

pub print_item-returns-in_err-increase-in-Turns-clause-run : goal.print_item-returns-in_err-increase-in-Turns-clause-run
print_item-returns-in_err-increase-in-Turns-clause-run g t c = λ input.
    rw (residual c.from_residual-in_err-increase-in-Turns.ensures.1)
    (c.loop.invariant.0 input (g.K.Sink.taken c.print_items.new.out) (seen c.increase.new.self) (Err (Halted c.in_err-increase-in-Turns.field-0.0))
    (at_turn (fortran77 c.args.width) c.args.line c.in-Turns.name c.in_ok-turns-in-Turns.turns.step (λ limit. prints_items (fortran77 c.args.width) limit (plain_items c.in-Turns.items) c.args.line) input (c.in_ok-turns-in-Turns.turns.count - c.loop.counter) (c.in_ok-turns-in-Turns.turns.count - (c.loop.counter + 1)) (seen c.loop.self) (seen c.increase.new.self) (g.K.Sink.taken c.loop.out) (g.K.Sink.taken c.print_items.new.out) (Err (Halted c.in_err-increase-in-Turns.field-0.0)) (omega (arith, c.loop-test.true))
    (turn_stuck (fortran77 c.args.width) c.args.line c.in-Turns.name c.in_ok-turns-in-Turns.turns.step (λ limit. prints_items (fortran77 c.args.width) limit (plain_items c.in-Turns.items) c.args.line) input (c.in_ok-turns-in-Turns.turns.count - (c.loop.counter + 1)) (seen c.loop.self) (seen c.count_step.new.self) (seen c.print_items.new.self) (seen c.increase.new.self) (g.K.Sink.taken c.loop.out) (g.K.Sink.taken c.print_items.new.out) c.in_err-increase-in-Turns.field-0.0 (Extends-prints_items (fortran77 c.args.width) (plain_items c.in-Turns.items) c.args.line) c.in_ok-count_step-in-Turns.ensures.counted (c.in_ok-print_items-in-Turns.ensures.run input)
    (subst (λ d. Runs (λ limit. increases (fortran77 c.args.width) limit c.args.line c.in-Turns.name d) input (seen c.print_items.new.self) (g.K.Sink.taken c.print_items.new.out) (seen c.increase.new.self) (g.K.Sink.taken c.print_items.new.out) (Err (Halted c.in_err-increase-in-Turns.field-0.0))) (settled c.in_ok-turns-in-Turns.turns.step (search rules)) (c.in_err-increase-in-Turns.ensures input (g.K.Sink.taken c.print_items.new.out))))))

pub print_item-loop-preserved : goal.print_item-loop-preserved
print_item-loop-preserved g t c = (
  λ input now last r h.
      c.loop.invariant.0 input now last r
      (at_turn (fortran77 c.args.width) c.args.line c.in-Turns.name c.in_ok-turns-in-Turns.turns.step (λ limit. prints_items (fortran77 c.args.width) limit (plain_items c.in-Turns.items) c.args.line) input (c.in_ok-turns-in-Turns.turns.count - c.loop.counter) (c.in_ok-turns-in-Turns.turns.count - (c.loop.counter + 1)) (seen c.loop.self) last (g.K.Sink.taken c.loop.out) now r (omega (arith, c.loop-test.true))
      (turn_done (fortran77 c.args.width) c.args.line c.in-Turns.name c.in_ok-turns-in-Turns.turns.step (λ limit. prints_items (fortran77 c.args.width) limit (plain_items c.in-Turns.items) c.args.line) input (c.in_ok-turns-in-Turns.turns.count - (c.loop.counter + 1)) (seen c.loop.self) (seen c.count_step.new.self) (seen c.print_items.new.self) (seen c.increase.new.self) last (g.K.Sink.taken c.loop.out) (g.K.Sink.taken c.print_items.new.out) now r c.in_ok-count_step-in-Turns.ensures.counted (c.in_ok-print_items-in-Turns.ensures.run input)
      (subst (λ d. Runs (λ limit. increases (fortran77 c.args.width) limit c.args.line c.in-Turns.name d) input (seen c.print_items.new.self) (g.K.Sink.taken c.print_items.new.out) (seen c.increase.new.self) (g.K.Sink.taken c.print_items.new.out) (Ok tt)) (settled c.in_ok-turns-in-Turns.turns.step (search rules)) (c.in_ok-increase-in-Turns.ensures input (g.K.Sink.taken c.print_items.new.out))) h)),
  c.in_ok-print_items-in-Turns.ensures.no_fault (λ e. cc) ∙ c.loop.invariant.1,
  λ input bytes.
      let k = c.loop.invariant.2 input bytes in
      let l = c.in_ok-print_items-in-Turns.ensures.told input k.after in
      both k l
      (λ now last r h.
      k.does now last r
      (at_turn (fortran77 c.args.width) c.args.line c.in-Turns.name c.in_ok-turns-in-Turns.turns.step (λ limit. prints_items (fortran77 c.args.width) limit (plain_items c.in-Turns.items) c.args.line) input (c.in_ok-turns-in-Turns.turns.count - c.loop.counter) (c.in_ok-turns-in-Turns.turns.count - (c.loop.counter + 1)) (seen c.loop.self) last (Some k.after) now r (omega (arith, c.loop-test.true))
      (turn_done (fortran77 c.args.width) c.args.line c.in-Turns.name c.in_ok-turns-in-Turns.turns.step (λ limit. prints_items (fortran77 c.args.width) limit (plain_items c.in-Turns.items) c.args.line) input (c.in_ok-turns-in-Turns.turns.count - (c.loop.counter + 1)) (seen c.loop.self) (seen c.count_step.new.self) (seen c.print_items.new.self) (seen c.increase.new.self) last (Some k.after) (Some l.after) now r c.in_ok-count_step-in-Turns.ensures.counted l.does
      (subst (λ d. Runs (λ limit. increases (fortran77 c.args.width) limit c.args.line c.in-Turns.name d) input (seen c.print_items.new.self) (Some l.after) (seen c.increase.new.self) (Some l.after) (Ok tt)) (settled c.in_ok-turns-in-Turns.turns.step (search rules)) (c.in_ok-increase-in-Turns.ensures input (Some l.after))) h))),
)

pub print_item-returns-after-loop-clause-run : goal.print_item-returns-after-loop-clause-run
print_item-returns-after-loop-clause-run g t c = λ input.
    c.loop.invariant.0 input (g.K.Sink.taken c.loop.out) (seen c.loop.self) (Ok tt) (no_turn (fortran77 c.args.width) c.args.line c.in-Turns.name c.in_ok-turns-in-Turns.turns.step (λ limit. prints_items (fortran77 c.args.width) limit (plain_items c.in-Turns.items) c.args.line) input (c.in_ok-turns-in-Turns.turns.count - c.loop.counter) (seen c.loop.self) (g.K.Sink.taken c.loop.out) (omega (arith, c.loop-test.false)))

pub print_items-returns-in_err-print_item-clause-run : goal.print_items-returns-in_err-print_item-clause-run
print_items-returns-in_err-print_item-clause-run g t c = λ input.
    rw (residual c.from_residual.ensures.1)
    (c.loop-item.invariant.0 input (g.K.Sink.taken c.print_item.new.out) (seen c.print_item.new.self) (Err c.in_err-print_item.field-0.0)
    (items_left (fortran77 c.args.width) c.args.line c.as_slice-item-items.result.now c.loop-item.item-index c.item-item.result (omega (arith, c.loop-item-test.true)) c.item-item.is input (seen c.loop-item.self) (seen c.print_item.new.self) (g.K.Sink.taken c.loop-item.out) (g.K.Sink.taken c.print_item.new.out) c.in_err-print_item.field-0.0 (c.in_err-print_item.ensures.run input)))

pub print_items-loop-item-preserved : goal.print_items-loop-item-preserved
print_items-loop-item-preserved g t c = (
  λ input now last r h.
      c.loop-item.invariant.0 input now last r (items_more (fortran77 c.args.width) c.args.line c.as_slice-item-items.result.now c.loop-item.item-index c.item-item.result (omega (arith, c.loop-item-test.true)) c.item-item.is input (seen c.loop-item.self) (seen c.print_item.new.self) (g.K.Sink.taken c.loop-item.out) (g.K.Sink.taken c.print_item.new.out) last now r (c.in_ok-print_item.ensures.run input) h),
  c.in_ok-print_item.ensures.no_fault (λ e. cc) ∙ c.loop-item.invariant.1,
  λ input bytes.
      let k = c.loop-item.invariant.2 input bytes in
      let l = c.in_ok-print_item.ensures.told input k.after in
      both k l
      (λ now last r h.
      k.does now last r (items_more (fortran77 c.args.width) c.args.line c.as_slice-item-items.result.now c.loop-item.item-index c.item-item.result (omega (arith, c.loop-item-test.true)) c.item-item.is input (seen c.loop-item.self) (seen c.print_item.new.self) (Some k.after) (Some l.after) last now r l.does h)),
)

pub print_items-returns-clause-run : goal.print_items-returns-clause-run
print_items-returns-clause-run g t c = λ input.
    c.loop-item.invariant.0 input (g.K.Sink.taken c.loop-item.out) (seen c.loop-item.self) (Ok tt) (items_done (fortran77 c.args.width) c.args.line c.as_slice-item-items.result.now c.loop-item.item-index input (seen c.loop-item.self) (g.K.Sink.taken c.loop-item.out) (omega (arith, c.loop-item-test.false)))

-- ---- the sink, where nothing is given

pub print_item-returns-in_err-write_all-in-Text-clause-told : goal.print_item-returns-in_err-write_all-in-Text-clause-told
print_item-returns-in_err-write_all-in-Text-clause-told g t c = λ input bytes.
    let text = c.as_slice.result.now in
    given text bytes c.write_all.ensures.untouched
    (rw (residual c.from_residual.ensures.1)
    (text_runs (fortran77 c.args.width) c.args.line input (seen c.args.self.now) (Some bytes) (Some (bytes ++ text)) (Err c.in_err-write_all-in-Text.field-0.0) c.args.item.now c.in-Text.text c.in-Text.is
    (subst (λ t. WritesText (Some bytes) t (Some (bytes ++ text)) (let r : Result (Unit {0}) WriteFault = (Err c.in_err-write_all-in-Text.field-0.0) in r)) c.as_slice.ensures (taken_whole text bytes (Err c.in_err-write_all-in-Text.field-0.0)))))

pub print_item-returns-in_ok-write_all-in-Text-clause-told : goal.print_item-returns-in_ok-write_all-in-Text-clause-told
print_item-returns-in_ok-write_all-in-Text-clause-told g t c = λ input bytes.
    let text = c.as_slice.result.now in
    given text bytes c.write_all.ensures.untouched
    ((text_runs (fortran77 c.args.width) c.args.line input (seen c.args.self.now) (Some bytes) (Some (bytes ++ text)) (Ok tt) c.args.item.now c.in-Text.text c.in-Text.is
    (subst (λ t. WritesText (Some bytes) t (Some (bytes ++ text)) (let r : Result (Unit {0}) WriteFault = (Ok tt) in r)) c.as_slice.ensures (taken_whole text bytes (Ok tt)))))

pub print_item-returns-in-One-clause-told : goal.print_item-returns-in-One-clause-told
print_item-returns-in-One-clause-told g t c = λ input bytes.
    let k = c.print_value.ensures.told c.args.width input bytes in
    kept k
    (one_runs (fortran77 c.args.width) c.args.line input (seen c.args.self.now) (seen c.args.self.now) (Some bytes) (Some k.after) c.print_value.result c.args.item.now c.in-One.expr c.in-One.is k.does)

pub print_item-returns-in_err-turns-in-Turns-clause-told : goal.print_item-returns-in_err-turns-in-Turns-clause-told
unfolding BeginsLoop
print_item-returns-in_err-turns-in-Turns-clause-told g t c = λ input bytes.
    still _ bytes
    (rw (residual c.from_residual-in_err-turns-in-Turns.ensures.1)
    (turns_run (fortran77 c.args.width) c.args.line input (seen c.args.self.now) (seen c.begin_loop.new.self) (Some bytes) (Some bytes) (Err (Halted c.in_err-turns-in-Turns.field-0.0)) c.args.item.now c.in-Turns.items c.in-Turns.name c.in-Turns.first c.in-Turns.last c.in-Turns.step c.in-Turns.is
    (c.in_err-turns-in-Turns.ensures (λ limit. prints_items (fortran77 c.args.width) limit (plain_items c.in-Turns.items) c.args.line) input (Some bytes))))

pub print_item-returns-in_err-count_step-in-Turns-clause-told : goal.print_item-returns-in_err-count_step-in-Turns-clause-told
print_item-returns-in_err-count_step-in-Turns-clause-told g t c = λ input bytes.
    let k = c.loop.invariant.2 input bytes in
    kept k
    (rw (residual c.from_residual-in_err-count_step-in-Turns.ensures.1)
    (k.does (Some k.after) (seen c.count_step.new.self) (Err (Halted c.in_err-count_step-in-Turns.field-0.0))
    (at_turn (fortran77 c.args.width) c.args.line c.in-Turns.name c.in_ok-turns-in-Turns.turns.step (λ limit. prints_items (fortran77 c.args.width) limit (plain_items c.in-Turns.items) c.args.line) input (c.in_ok-turns-in-Turns.turns.count - c.loop.counter) (c.in_ok-turns-in-Turns.turns.count - (c.loop.counter + 1)) (seen c.loop.self) (seen c.count_step.new.self) (Some k.after) (Some k.after) (Err (Halted c.in_err-count_step-in-Turns.field-0.0)) (omega (arith, c.loop-test.true))
    (turn_cut (fortran77 c.args.width) c.args.line c.in-Turns.name c.in_ok-turns-in-Turns.turns.step (λ limit. prints_items (fortran77 c.args.width) limit (plain_items c.in-Turns.items) c.args.line) input (c.in_ok-turns-in-Turns.turns.count - (c.loop.counter + 1)) (seen c.loop.self) (seen c.count_step.new.self) (Some k.after) c.in_err-count_step-in-Turns.field-0.0 c.in_err-count_step-in-Turns.ensures.counted))))

pub print_item-returns-in_err-print_items-in-Turns-clause-told : goal.print_item-returns-in_err-print_items-in-Turns-clause-told
print_item-returns-in_err-print_items-in-Turns-clause-told g t c = λ input bytes.
    let k = c.loop.invariant.2 input bytes in
    let l = c.in_err-print_items-in-Turns.ensures.told input k.after in
    both k l
    (rw (residual c.from_residual-in_err-print_items-in-Turns.ensures.1)
    (k.does (Some l.after) (seen c.print_items.new.self) (Err c.in_err-print_items-in-Turns.field-0.0)
    (at_turn (fortran77 c.args.width) c.args.line c.in-Turns.name c.in_ok-turns-in-Turns.turns.step (λ limit. prints_items (fortran77 c.args.width) limit (plain_items c.in-Turns.items) c.args.line) input (c.in_ok-turns-in-Turns.turns.count - c.loop.counter) (c.in_ok-turns-in-Turns.turns.count - (c.loop.counter + 1)) (seen c.loop.self) (seen c.print_items.new.self) (Some k.after) (Some l.after) (Err c.in_err-print_items-in-Turns.field-0.0) (omega (arith, c.loop-test.true))
    (turn_left (fortran77 c.args.width) c.args.line c.in-Turns.name c.in_ok-turns-in-Turns.turns.step (λ limit. prints_items (fortran77 c.args.width) limit (plain_items c.in-Turns.items) c.args.line) input (c.in_ok-turns-in-Turns.turns.count - (c.loop.counter + 1)) (seen c.loop.self) (seen c.count_step.new.self) (seen c.print_items.new.self) (Some k.after) (Some l.after) c.in_err-print_items-in-Turns.field-0.0 (Extends-prints_items (fortran77 c.args.width) (plain_items c.in-Turns.items) c.args.line) c.in_ok-count_step-in-Turns.ensures.counted l.does))))

pub print_item-returns-in_err-increase-in-Turns-clause-told : goal.print_item-returns-in_err-increase-in-Turns-clause-told
print_item-returns-in_err-increase-in-Turns-clause-told g t c = λ input bytes.
    let k = c.loop.invariant.2 input bytes in
    let l = c.in_ok-print_items-in-Turns.ensures.told input k.after in
    both k l
    (rw (residual c.from_residual-in_err-increase-in-Turns.ensures.1)
    (k.does (Some l.after) (seen c.increase.new.self) (Err (Halted c.in_err-increase-in-Turns.field-0.0))
    (at_turn (fortran77 c.args.width) c.args.line c.in-Turns.name c.in_ok-turns-in-Turns.turns.step (λ limit. prints_items (fortran77 c.args.width) limit (plain_items c.in-Turns.items) c.args.line) input (c.in_ok-turns-in-Turns.turns.count - c.loop.counter) (c.in_ok-turns-in-Turns.turns.count - (c.loop.counter + 1)) (seen c.loop.self) (seen c.increase.new.self) (Some k.after) (Some l.after) (Err (Halted c.in_err-increase-in-Turns.field-0.0)) (omega (arith, c.loop-test.true))
    (turn_stuck (fortran77 c.args.width) c.args.line c.in-Turns.name c.in_ok-turns-in-Turns.turns.step (λ limit. prints_items (fortran77 c.args.width) limit (plain_items c.in-Turns.items) c.args.line) input (c.in_ok-turns-in-Turns.turns.count - (c.loop.counter + 1)) (seen c.loop.self) (seen c.count_step.new.self) (seen c.print_items.new.self) (seen c.increase.new.self) (Some k.after) (Some l.after) c.in_err-increase-in-Turns.field-0.0 (Extends-prints_items (fortran77 c.args.width) (plain_items c.in-Turns.items) c.args.line) c.in_ok-count_step-in-Turns.ensures.counted l.does
    (subst (λ d. Runs (λ limit. increases (fortran77 c.args.width) limit c.args.line c.in-Turns.name d) input (seen c.print_items.new.self) (Some l.after) (seen c.increase.new.self) (Some l.after) (Err (Halted c.in_err-increase-in-Turns.field-0.0))) (settled c.in_ok-turns-in-Turns.turns.step (search rules)) (c.in_err-increase-in-Turns.ensures input (Some l.after)))))))

pub print_item-returns-after-loop-clause-told : goal.print_item-returns-after-loop-clause-told
print_item-returns-after-loop-clause-told g t c = λ input bytes.
    let k = c.loop.invariant.2 input bytes in
    kept k
    (k.does (Some k.after) (seen c.loop.self) (Ok tt) (no_turn (fortran77 c.args.width) c.args.line c.in-Turns.name c.in_ok-turns-in-Turns.turns.step (λ limit. prints_items (fortran77 c.args.width) limit (plain_items c.in-Turns.items) c.args.line) input (c.in_ok-turns-in-Turns.turns.count - c.loop.counter) (seen c.loop.self) (Some k.after) (omega (arith, c.loop-test.false))))

pub print_items-returns-in_err-print_item-clause-told : goal.print_items-returns-in_err-print_item-clause-told
print_items-returns-in_err-print_item-clause-told g t c = λ input bytes.
    let k = c.loop-item.invariant.2 input bytes in
    let l = c.in_err-print_item.ensures.told input k.after in
    both k l
    (rw (residual c.from_residual.ensures.1)
    (k.does (Some l.after) (seen c.print_item.new.self) (Err c.in_err-print_item.field-0.0)
    (items_left (fortran77 c.args.width) c.args.line c.as_slice-item-items.result.now c.loop-item.item-index c.item-item.result (omega (arith, c.loop-item-test.true)) c.item-item.is input (seen c.loop-item.self) (seen c.print_item.new.self) (Some k.after) (Some l.after) c.in_err-print_item.field-0.0 l.does)))

pub print_items-returns-clause-told : goal.print_items-returns-clause-told
print_items-returns-clause-told g t c = λ input bytes.
    let k = c.loop-item.invariant.2 input bytes in
    kept k
    (k.does (Some k.after) (seen c.loop-item.self) (Ok tt) (items_done (fortran77 c.args.width) c.args.line c.as_slice-item-items.result.now c.loop-item.item-index input (seen c.loop-item.self) (Some k.after) (omega (arith, c.loop-item-test.false))))

pub print_items-loop-item-init : goal.print_items-loop-item-init
print_items-loop-item-init g t c = (
  λ input now last r h.
      subst (λ xs. Runs (λ limit. prints_items (fortran77 c.args.width) limit (plain_items xs) c.args.line) input (seen c.args.self.now) (g.K.Sink.taken c.args.out.now) last now r) c.as_slice-item-items.ensures h,
  refl,
  λ input bytes. still _ bytes
      (λ now last r h. subst (λ xs. Runs (λ limit. prints_items (fortran77 c.args.width) limit (plain_items xs) c.args.line) input (seen c.args.self.now) (Some bytes) last now r) c.as_slice-item-items.ensures h),
)
