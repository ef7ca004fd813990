use Rattle.std.proofs.Common.{◌≡◌, subst, ◌+◌, ◌-◌, Ok, Err, arith, rules}
use Rattle.meaning.specs.Dialect.{fortran77}
use Rattle.meaning.specs.Run.{repeated, turn, reads_items, increases}
use Rattle.machine.specs.declared.progress.Left.TheVariants.{Halted}
use Rattle.machine.specs.Acts.{Runs, left_of}
use Rattle.machine.specs.Loops.{BeginsLoop}
use Rattle.machine.specs.Printing.{plain_items}
use Rattle.machine.proofs.Residuals.{residual, settled}
use Rattle.machine.proofs.TurnLaws.{turn_cut, turn_done, at_turn, no_turn}
use Rattle.machine.proofs.ReadLaws.{one_read, turns_read, text_read, reading_left, reading_more, reading_done, turn_halted, turn_blocked}
use Rattle.run77.specs.Moments.{seen}
use Rattle.run77.proofs.moment.Moment.+reading.Goals as goal

pub read_item-returns-in-One : goal.read_item-returns-in-One
read_item-returns-in-One t c = λ bytes.
    one_read (fortran77 c.args.width) c.args.line c.args.input.now (seen c.args.self.now) (seen c.read_expression.new.self) bytes (left_of c.read_expression.result) c.args.item.now c.in-One.expr c.in-One.is (c.read_expression.ensures bytes)

pub read_item-returns-in-Text : goal.read_item-returns-in-Text
read_item-returns-in-Text t c = λ bytes. text_read (fortran77 c.args.width) c.args.line c.args.input.now (seen c.args.self.now) bytes c.args.item.now _ c.in-Text.is

pub read_item-returns-in_err-turns-in-Turns : goal.read_item-returns-in_err-turns-in-Turns
unfolding BeginsLoop
read_item-returns-in_err-turns-in-Turns t c = λ bytes.
    rw (residual c.from_residual.ensures.1)
    (turns_read (fortran77 c.args.width) c.args.line c.args.input.now (seen c.args.self.now) (seen c.begin_loop.new.self) bytes (Err (Halted c.in_err-turns-in-Turns.field-0.0)) c.args.item.now c.in-Turns.items c.in-Turns.name c.in-Turns.first c.in-Turns.last c.in-Turns.step c.in-Turns.is
    (c.in_err-turns-in-Turns.ensures (λ limit. reads_items (fortran77 c.args.width) limit (plain_items c.in-Turns.items) c.args.line) c.args.input.now bytes))

pub read_item-loop-init : goal.read_item-loop-init
unfolding BeginsLoop
read_item-loop-init t c = λ bytes last r h.
    turns_read (fortran77 c.args.width) c.args.line c.args.input.now (seen c.args.self.now) last bytes r c.args.item.now c.in-Turns.items c.in-Turns.name c.in-Turns.first c.in-Turns.last c.in-Turns.step c.in-Turns.is
    (c.in_ok-turns-in-Turns.ensures (λ limit. reads_items (fortran77 c.args.width) limit (plain_items c.in-Turns.items) c.args.line) c.args.input.now bytes bytes last r
    (subst (λ n. Runs (λ limit. repeated n (turn (fortran77 c.args.width) limit c.args.line c.in-Turns.name c.in_ok-turns-in-Turns.turns.step (reads_items (fortran77 c.args.width) limit (plain_items c.in-Turns.items) c.args.line))) c.args.input.now (seen c.begin_loop.new.self) bytes last bytes r) (let e : c.in_ok-turns-in-Turns.turns.count - 0 ≡ c.in_ok-turns-in-Turns.turns.count = omega arith in e) h))

pub read_item-returns-in_err-count_step-in-Turns : goal.read_item-returns-in_err-count_step-in-Turns
read_item-returns-in_err-count_step-in-Turns t c = λ bytes.
    rw (residual c.from_residual-in_err-count_step-in-Turns.ensures.1)
    (c.loop.invariant bytes (seen c.count_step.new.self) (Err (Halted c.in_err-count_step-in-Turns.field-0.0))
    (at_turn (fortran77 c.args.width) c.args.line c.in-Turns.name c.in_ok-turns-in-Turns.turns.step (λ limit. reads_items (fortran77 c.args.width) limit (plain_items c.in-Turns.items) c.args.line) c.args.input.now (c.in_ok-turns-in-Turns.turns.count - c.loop.counter) (c.in_ok-turns-in-Turns.turns.count - (c.loop.counter + 1)) (seen c.loop.self) (seen c.count_step.new.self) bytes bytes (Err (Halted c.in_err-count_step-in-Turns.field-0.0)) (omega (arith, c.loop-test.true))
    (turn_cut (fortran77 c.args.width) c.args.line c.in-Turns.name c.in_ok-turns-in-Turns.turns.step (λ limit. reads_items (fortran77 c.args.width) limit (plain_items c.in-Turns.items) c.args.line) c.args.input.now (c.in_ok-turns-in-Turns.turns.count - (c.loop.counter + 1)) (seen c.loop.self) (seen c.count_step.new.self) bytes c.in_err-count_step-in-Turns.field-0.0 c.in_err-count_step-in-Turns.ensures.counted)))

pub read_item-returns-in_err-read_items-in-Turns : goal.read_item-returns-in_err-read_items-in-Turns
read_item-returns-in_err-read_items-in-Turns t c = λ bytes.
    rw (residual c.from_residual-in_err-read_items-in-Turns.ensures.1)
    (c.loop.invariant bytes (seen c.read_items.new.self) (Err (Halted c.in_err-read_items-in-Turns.field-0.0))
    (at_turn (fortran77 c.args.width) c.args.line c.in-Turns.name c.in_ok-turns-in-Turns.turns.step (λ limit. reads_items (fortran77 c.args.width) limit (plain_items c.in-Turns.items) c.args.line) c.args.input.now (c.in_ok-turns-in-Turns.turns.count - c.loop.counter) (c.in_ok-turns-in-Turns.turns.count - (c.loop.counter + 1)) (seen c.loop.self) (seen c.read_items.new.self) bytes bytes (Err (Halted c.in_err-read_items-in-Turns.field-0.0)) (omega (arith, c.loop-test.true))
    (turn_halted (fortran77 c.args.width) c.args.line c.in-Turns.name c.in_ok-turns-in-Turns.turns.step (λ limit. reads_items (fortran77 c.args.width) limit (plain_items c.in-Turns.items) c.args.line) c.args.input.now (c.in_ok-turns-in-Turns.turns.count - (c.loop.counter + 1)) bytes (seen c.loop.self) (seen c.count_step.new.self) (seen c.read_items.new.self) c.in_err-read_items-in-Turns.field-0.0 c.in_ok-count_step-in-Turns.ensures.counted (c.in_err-read_items-in-Turns.ensures bytes))))

pub read_item-returns-in_err-increase-in-Turns : goal.read_item-returns-in_err-increase-in-Turns
read_item-returns-in_err-increase-in-Turns t c = λ bytes.
    rw (residual c.from_residual-in_err-increase-in-Turns.ensures.1)
    (c.loop.invariant bytes (seen c.increase.new.self) (Err (Halted c.in_err-increase-in-Turns.field-0.0))
    (at_turn (fortran77 c.args.width) c.args.line c.in-Turns.name c.in_ok-turns-in-Turns.turns.step (λ limit. reads_items (fortran77 c.args.width) limit (plain_items c.in-Turns.items) c.args.line) c.args.input.now (c.in_ok-turns-in-Turns.turns.count - c.loop.counter) (c.in_ok-turns-in-Turns.turns.count - (c.loop.counter + 1)) (seen c.loop.self) (seen c.increase.new.self) bytes bytes (Err (Halted c.in_err-increase-in-Turns.field-0.0)) (omega (arith, c.loop-test.true))
    (turn_blocked (fortran77 c.args.width) c.args.line c.in-Turns.name c.in_ok-turns-in-Turns.turns.step (λ limit. reads_items (fortran77 c.args.width) limit (plain_items c.in-Turns.items) c.args.line) c.args.input.now (c.in_ok-turns-in-Turns.turns.count - (c.loop.counter + 1)) bytes (seen c.loop.self) (seen c.count_step.new.self) (seen c.read_items.new.self) (seen c.increase.new.self) c.in_err-increase-in-Turns.field-0.0 c.in_ok-count_step-in-Turns.ensures.counted (c.in_ok-read_items-in-Turns.ensures bytes)
    (subst (λ d. Runs (λ limit. increases (fortran77 c.args.width) limit c.args.line c.in-Turns.name d) c.args.input.now (seen c.read_items.new.self) bytes (seen c.increase.new.self) bytes (Err (Halted c.in_err-increase-in-Turns.field-0.0))) (settled c.in_ok-turns-in-Turns.turns.step (search rules)) (c.in_err-increase-in-Turns.ensures c.args.input.now bytes)))))

pub read_item-loop-preserved : goal.read_item-loop-preserved
read_item-loop-preserved t c = λ bytes last r h.
    c.loop.invariant bytes last r
    (at_turn (fortran77 c.args.width) c.args.line c.in-Turns.name c.in_ok-turns-in-Turns.turns.step (λ limit. reads_items (fortran77 c.args.width) limit (plain_items c.in-Turns.items) c.args.line) c.args.input.now (c.in_ok-turns-in-Turns.turns.count - c.loop.counter) (c.in_ok-turns-in-Turns.turns.count - (c.loop.counter + 1)) (seen c.loop.self) last bytes bytes r (omega (arith, c.loop-test.true))
    (turn_done (fortran77 c.args.width) c.args.line c.in-Turns.name c.in_ok-turns-in-Turns.turns.step (λ limit. reads_items (fortran77 c.args.width) limit (plain_items c.in-Turns.items) c.args.line) c.args.input.now (c.in_ok-turns-in-Turns.turns.count - (c.loop.counter + 1)) (seen c.loop.self) (seen c.count_step.new.self) (seen c.read_items.new.self) (seen c.increase.new.self) last bytes bytes bytes r c.in_ok-count_step-in-Turns.ensures.counted (c.in_ok-read_items-in-Turns.ensures bytes)
    (subst (λ d. Runs (λ limit. increases (fortran77 c.args.width) limit c.args.line c.in-Turns.name d) c.args.input.now (seen c.read_items.new.self) bytes (seen c.increase.new.self) bytes (Ok tt)) (settled c.in_ok-turns-in-Turns.turns.step (search rules)) (c.in_ok-increase-in-Turns.ensures c.args.input.now bytes)) h))

pub read_item-returns-after-loop : goal.read_item-returns-after-loop
read_item-returns-after-loop t c = λ bytes.
    c.loop.invariant bytes (seen c.loop.self) (Ok tt) (no_turn (fortran77 c.args.width) c.args.line c.in-Turns.name c.in_ok-turns-in-Turns.turns.step (λ limit. reads_items (fortran77 c.args.width) limit (plain_items c.in-Turns.items) c.args.line) c.args.input.now (c.in_ok-turns-in-Turns.turns.count - c.loop.counter) (seen c.loop.self) bytes (omega (arith, c.loop-test.false)))

pub read_items-returns-in_err-read_item : goal.read_items-returns-in_err-read_item
read_items-returns-in_err-read_item t c = λ bytes.
    rw (residual c.from_residual.ensures.1)
    (c.loop-item.invariant bytes (seen c.read_item.new.self) (Err (Halted c.in_err-read_item.field-0.0)) (reading_left (fortran77 c.args.width) c.args.line c.as_slice-item-items.result.now c.loop-item.item-index c.item-item.result (omega (arith, c.loop-item-test.true)) c.item-item.is c.args.input.now (seen c.loop-item.self) (seen c.read_item.new.self) bytes c.in_err-read_item.field-0.0 (c.in_err-read_item.ensures bytes)))

pub read_items-loop-item-preserved : goal.read_items-loop-item-preserved
read_items-loop-item-preserved t c = λ bytes last r h.
    c.loop-item.invariant bytes last r (reading_more (fortran77 c.args.width) c.args.line c.as_slice-item-items.result.now c.loop-item.item-index c.item-item.result (omega (arith, c.loop-item-test.true)) c.item-item.is c.args.input.now (seen c.loop-item.self) (seen c.read_item.new.self) bytes last r (c.in_ok-read_item.ensures bytes) h)

pub read_items-returns : goal.read_items-returns
read_items-returns t c = λ bytes.
    c.loop-item.invariant bytes (seen c.loop-item.self) (Ok tt) (reading_done (fortran77 c.args.width) c.args.line c.as_slice-item-items.result.now c.loop-item.item-index c.args.input.now (seen c.loop-item.self) bytes (omega (arith, c.loop-item-test.false)))
