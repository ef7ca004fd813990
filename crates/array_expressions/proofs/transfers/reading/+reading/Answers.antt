use Rattle.std.proofs.Common.{◌≡◌, subst, ◌+◌, ◌-◌, Ok, Err, arith, rules}
use Rattle.meaning.specs.Dialect.{fortran90}
use Rattle.meaning.specs.Run.{repeated, turn, reads_items, increases}
use Rattle.machine.specs.declared.progress.Left.TheVariants.{Halted}
use Rattle.machine.specs.Acts.{Runs}
use Rattle.array_expressions.specs.assignments.Causes.{outcome, left_by}
use Rattle.array_expressions.specs.assignments.Loops.{BeginsLoop}
use Rattle.array_expressions.proofs.transfers.Lacking.{Extends-reads_items, begins_stuck, reading_stuck}
use Rattle.machine.specs.Printing.{plain_items}
use Rattle.machine.proofs.Residuals.{residual, settled}
use Rattle.machine.proofs.TurnLaws.{turn_cut, turn_left, turn_done, at_turn, no_turn}
use Rattle.machine.proofs.ReadLaws.{one_read, turns_read, text_read, reading_more, reading_done, turn_blocked}
use Rattle.array_expressions.specs.assignments.Moments.{seen}
use Rattle.array_expressions.proofs.transfers.reading.+reading.Goals as goal

pub read_item-returns-in-One : goal.read_item-returns-in-One
read_item-returns-in-One t c = λ bytes.
    one_read (fortran90 c.args.width) c.args.line c.args.input.now (seen c.args.moment.now) (seen c.read_expression.new.moment) bytes (outcome c.read_expression.result) c.args.item.now c.in-One.expr c.in-One.is (c.read_expression.ensures bytes)

pub read_item-returns-in-Text : goal.read_item-returns-in-Text
read_item-returns-in-Text t c = λ bytes. text_read (fortran90 c.args.width) c.args.line c.args.input.now (seen c.args.moment.now) bytes c.args.item.now _ c.in-Text.is

pub read_item-returns-in_err-turns-in-Turns : goal.read_item-returns-in_err-turns-in-Turns
read_item-returns-in_err-turns-in-Turns t c = λ bytes.
    rw (residual c.from_residual.ensures.1)
    (turns_read (fortran90 c.args.width) c.args.line c.args.input.now (seen c.args.moment.now) (seen c.begin_loop.new.self) bytes (Err (left_by c.in_err-turns-in-Turns.field-0.0)) c.args.item.now c.in-Turns.items c.in-Turns.name c.in-Turns.first c.in-Turns.last c.in-Turns.step c.in-Turns.is
    (begins_stuck c.args.width c.args.line c.in-Turns.name _ _ _ (seen c.args.moment.now) (seen c.begin_loop.new.self) c.in_err-turns-in-Turns.field-0.0 c.in_err-turns-in-Turns.ensures (λ limit. reads_items (fortran90 c.args.width) limit (plain_items c.in-Turns.items) c.args.line) c.args.input.now bytes (Extends-reads_items (fortran90 c.args.width) (plain_items c.in-Turns.items) c.args.line)))

pub read_item-loop-init : goal.read_item-loop-init
unfolding BeginsLoop
read_item-loop-init t c = λ bytes last r h.
    turns_read (fortran90 c.args.width) c.args.line c.args.input.now (seen c.args.moment.now) last bytes r c.args.item.now c.in-Turns.items c.in-Turns.name c.in-Turns.first c.in-Turns.last c.in-Turns.step c.in-Turns.is
    (c.in_ok-turns-in-Turns.ensures (λ limit. reads_items (fortran90 c.args.width) limit (plain_items c.in-Turns.items) c.args.line) c.args.input.now bytes bytes last r
    (subst (λ n. Runs (λ limit. repeated n (turn (fortran90 c.args.width) limit c.args.line c.in-Turns.name c.in_ok-turns-in-Turns.turns.step (reads_items (fortran90 c.args.width) limit (plain_items c.in-Turns.items) c.args.line))) c.args.input.now (seen c.begin_loop.new.self) bytes last bytes r) (let e : c.in_ok-turns-in-Turns.turns.count - 0 ≡ c.in_ok-turns-in-Turns.turns.count = omega arith in e) h))

pub read_item-returns-in_err-count_step-in-Turns : goal.read_item-returns-in_err-count_step-in-Turns
read_item-returns-in_err-count_step-in-Turns t c = λ bytes.
    rw (residual c.from_residual-in_err-count_step-in-Turns.ensures.1)
    (c.loop.invariant bytes (seen c.count_step.new.self) (Err (Halted c.in_err-count_step-in-Turns.field-0.0))
    (at_turn (fortran90 c.args.width) c.args.line c.in-Turns.name c.in_ok-turns-in-Turns.turns.step (λ limit. reads_items (fortran90 c.args.width) limit (plain_items c.in-Turns.items) c.args.line) c.args.input.now (c.in_ok-turns-in-Turns.turns.count - c.loop.counter) (c.in_ok-turns-in-Turns.turns.count - (c.loop.counter + 1)) (seen c.loop.moment) (seen c.count_step.new.self) bytes bytes (Err (Halted c.in_err-count_step-in-Turns.field-0.0)) (omega (arith, c.loop-test.true))
    (turn_cut (fortran90 c.args.width) c.args.line c.in-Turns.name c.in_ok-turns-in-Turns.turns.step (λ limit. reads_items (fortran90 c.args.width) limit (plain_items c.in-Turns.items) c.args.line) c.args.input.now (c.in_ok-turns-in-Turns.turns.count - (c.loop.counter + 1)) (seen c.loop.moment) (seen c.count_step.new.self) bytes c.in_err-count_step-in-Turns.field-0.0 c.in_err-count_step-in-Turns.ensures.counted)))

pub read_item-returns-in_err-read_items-in-Turns : goal.read_item-returns-in_err-read_items-in-Turns
read_item-returns-in_err-read_items-in-Turns t c = λ bytes.
    let n = c.in_ok-turns-in-Turns.turns.count in
    let left = left_by c.in_err-read_items-in-Turns.field-0.0 in
    let step = c.in_ok-turns-in-Turns.turns.step in
    rw (residual c.from_residual-in_err-read_items-in-Turns.ensures.1)
    (c.loop.invariant bytes (seen c.read_items.new.moment) (Err left)
    (at_turn (fortran90 c.args.width) c.args.line c.in-Turns.name step (λ limit. reads_items (fortran90 c.args.width) limit (plain_items c.in-Turns.items) c.args.line) c.args.input.now (n - c.loop.counter) (n - (c.loop.counter + 1)) (seen c.loop.moment) (seen c.read_items.new.moment) bytes bytes (Err left) (omega (arith, c.loop-test.true))
    (turn_left (fortran90 c.args.width) c.args.line c.in-Turns.name step (λ limit. reads_items (fortran90 c.args.width) limit (plain_items c.in-Turns.items) c.args.line) c.args.input.now (n - (c.loop.counter + 1)) (seen c.loop.moment) (seen c.count_step.new.self) (seen c.read_items.new.moment) bytes bytes left
    (Extends-reads_items (fortran90 c.args.width) (plain_items c.in-Turns.items) c.args.line) c.in_ok-count_step-in-Turns.ensures.counted (c.in_err-read_items-in-Turns.ensures bytes))))

pub read_item-returns-in_err-increase-in-Turns : goal.read_item-returns-in_err-increase-in-Turns
read_item-returns-in_err-increase-in-Turns t c = λ bytes.
    rw (residual c.from_residual-in_err-increase-in-Turns.ensures.1)
    (c.loop.invariant bytes (seen c.increase.new.self) (Err (Halted c.in_err-increase-in-Turns.field-0.0))
    (at_turn (fortran90 c.args.width) c.args.line c.in-Turns.name c.in_ok-turns-in-Turns.turns.step (λ limit. reads_items (fortran90 c.args.width) limit (plain_items c.in-Turns.items) c.args.line) c.args.input.now (c.in_ok-turns-in-Turns.turns.count - c.loop.counter) (c.in_ok-turns-in-Turns.turns.count - (c.loop.counter + 1)) (seen c.loop.moment) (seen c.increase.new.self) bytes bytes (Err (Halted c.in_err-increase-in-Turns.field-0.0)) (omega (arith, c.loop-test.true))
    (turn_blocked (fortran90 c.args.width) c.args.line c.in-Turns.name c.in_ok-turns-in-Turns.turns.step (λ limit. reads_items (fortran90 c.args.width) limit (plain_items c.in-Turns.items) c.args.line) c.args.input.now (c.in_ok-turns-in-Turns.turns.count - (c.loop.counter + 1)) bytes (seen c.loop.moment) (seen c.count_step.new.self) (seen c.read_items.new.moment) (seen c.increase.new.self) c.in_err-increase-in-Turns.field-0.0 c.in_ok-count_step-in-Turns.ensures.counted (c.in_ok-read_items-in-Turns.ensures bytes)
    (subst (λ d. Runs (λ limit. increases (fortran90 c.args.width) limit c.args.line c.in-Turns.name d) c.args.input.now (seen c.read_items.new.moment) bytes (seen c.increase.new.self) bytes (Err (Halted c.in_err-increase-in-Turns.field-0.0))) (settled c.in_ok-turns-in-Turns.turns.step (search rules)) (c.in_err-increase-in-Turns.ensures c.args.input.now bytes)))))

pub read_item-loop-preserved : goal.read_item-loop-preserved
read_item-loop-preserved t c = λ bytes last r h.
    c.loop.invariant bytes last r
    (at_turn (fortran90 c.args.width) c.args.line c.in-Turns.name c.in_ok-turns-in-Turns.turns.step (λ limit. reads_items (fortran90 c.args.width) limit (plain_items c.in-Turns.items) c.args.line) c.args.input.now (c.in_ok-turns-in-Turns.turns.count - c.loop.counter) (c.in_ok-turns-in-Turns.turns.count - (c.loop.counter + 1)) (seen c.loop.moment) last bytes bytes r (omega (arith, c.loop-test.true))
    (turn_done (fortran90 c.args.width) c.args.line c.in-Turns.name c.in_ok-turns-in-Turns.turns.step (λ limit. reads_items (fortran90 c.args.width) limit (plain_items c.in-Turns.items) c.args.line) c.args.input.now (c.in_ok-turns-in-Turns.turns.count - (c.loop.counter + 1)) (seen c.loop.moment) (seen c.count_step.new.self) (seen c.read_items.new.moment) (seen c.increase.new.self) last bytes bytes bytes r c.in_ok-count_step-in-Turns.ensures.counted (c.in_ok-read_items-in-Turns.ensures bytes)
    (subst (λ d. Runs (λ limit. increases (fortran90 c.args.width) limit c.args.line c.in-Turns.name d) c.args.input.now (seen c.read_items.new.moment) bytes (seen c.increase.new.self) bytes (Ok tt)) (settled c.in_ok-turns-in-Turns.turns.step (search rules)) (c.in_ok-increase-in-Turns.ensures c.args.input.now bytes)) h))

pub read_item-returns-after-loop : goal.read_item-returns-after-loop
read_item-returns-after-loop t c = λ bytes.
    c.loop.invariant bytes (seen c.loop.moment) (Ok tt) (no_turn (fortran90 c.args.width) c.args.line c.in-Turns.name c.in_ok-turns-in-Turns.turns.step (λ limit. reads_items (fortran90 c.args.width) limit (plain_items c.in-Turns.items) c.args.line) c.args.input.now (c.in_ok-turns-in-Turns.turns.count - c.loop.counter) (seen c.loop.moment) bytes (omega (arith, c.loop-test.false)))

pub read_items-returns-in_err-read_item : goal.read_items-returns-in_err-read_item
read_items-returns-in_err-read_item t c = λ bytes.
    let left = left_by c.in_err-read_item.field-0.0 in
    rw (residual c.from_residual.ensures.1)
    (c.loop-item.invariant bytes (seen c.read_item.new.moment) (Err left)
    (reading_stuck (fortran90 c.args.width) c.args.line c.as_slice-item-items.result.now c.loop-item.item-index c.item-item.result (omega (arith, c.loop-item-test.true)) c.item-item.is c.args.input.now (seen c.loop-item.moment) (seen c.read_item.new.moment) bytes left (c.in_err-read_item.ensures bytes)))

pub read_items-loop-item-preserved : goal.read_items-loop-item-preserved
read_items-loop-item-preserved t c = λ bytes last r h.
    c.loop-item.invariant bytes last r (reading_more (fortran90 c.args.width) c.args.line c.as_slice-item-items.result.now c.loop-item.item-index c.item-item.result (omega (arith, c.loop-item-test.true)) c.item-item.is c.args.input.now (seen c.loop-item.moment) (seen c.read_item.new.moment) bytes last r (c.in_ok-read_item.ensures bytes) h)

pub read_items-returns : goal.read_items-returns
read_items-returns t c = λ bytes.
    c.loop-item.invariant bytes (seen c.loop-item.moment) (Ok tt) (reading_done (fortran90 c.args.width) c.args.line c.as_slice-item-items.result.now c.loop-item.item-index c.args.input.now (seen c.loop-item.moment) bytes (omega (arith, c.loop-item-test.false)))
