use Rattle.std.proofs.Common.{◌≡◌, refl, sym, ap, ◌∙◌, subst, ◌+◌, ◌-◌, Ok, Err, Some, arith, rules, drop}
use Rattle.tree.specs.View.{expression_of, statement_of, block_of}
use Rattle.tree.specs.declared.stmts.Arm.{out-Arm}
use Rattle.tree.proofs.Equations.{statement_of-assign, statement_of-if, statement_of-do, statement_of-label, statement_of-go, statement_of-stop, statement_of-read, statement_of-print}
use Rattle.tree.proofs.Equations.{statement_of-masked, statement_of-allocate, statement_of-deallocate}
use Rattle.machine.proofs.ActLaws.{Runs-nothing}
use Rattle.meaning.specs.Dialect.{fortran77}
use Rattle.meaning.specs.Run.{nothing, repeated, turn, does_all, increases}
use Rattle.machine.specs.declared.progress.Left.TheVariants.{Halted}
use Rattle.machine.specs.declared.progress.Halt.TheVariants.{Jump}
use Rattle.machine.specs.Acts.{Runs, left_of}
use Rattle.machine.specs.Loops.{BeginsLoop}
use Rattle.machine.specs.Moments.{located}
use Rattle.machine.specs.Statements.{HasArms, ArmsHaveArms, plain_arms, Chooses}
use Rattle.machine.specs.Jumps.{way_at}
use Rattle.machine.proofs.Residuals.{residual, settled}
use Rattle.machine.proofs.TurnLaws.{turn_cut, turn_left, turn_stuck, turn_done, at_turn, no_turn}
use Rattle.machine.proofs.BlockLaws.{Extends-does_all, RunsOn, left_of_block, left_of_arms, block_arms, block_begins, has_arms_here, block_more, block_left, block_passed, block_done, block_jumped, has_arms_on, arm_cut, arm_fault, arm_true, arm_false, arms_done, at_statement, none_left, label_runs}
use Rattle.run77.specs.Moments.{seen}
use Rattle.run77.proofs.AnswerLaws.{went_on}
use Rattle.machine.proofs.Telling.{still, kept, both}
use Rattle.meaning.proofs.Widths.{same_truth}
use Rattle.run77.proofs.moment.Moment.+statements.Goals as goal

pub statement-returns-in-Assign-clause-run : goal.statement-returns-in-Assign-clause-run
statement-returns-in-Assign-clause-run g t c = λ arms.
    rw c.left.ensures
    (at_statement (fortran77 c.args.width) c.args.stmt.now _ c.args.input.now (seen c.args.self.now) (seen c.assignment.new.self) (g.K.Sink.taken c.args.out.now) (g.K.Sink.taken c.args.out.now) (left_of c.assignment.result) (ap statement_of c.in-Assign.is ∙ statement_of-assign _ _ _ _) (c.assignment.ensures c.args.input.now (g.K.Sink.taken c.args.out.now)))

pub statement-returns-in-Go-clause-run : goal.statement-returns-in-Go-clause-run
statement-returns-in-Go-clause-run g t c = λ arms.
    rw c.left-in-Go.ensures
    (at_statement (fortran77 c.args.width) c.args.stmt.now _ c.args.input.now (seen c.args.self.now) (seen c.go.new.self) (g.K.Sink.taken c.args.out.now) (g.K.Sink.taken c.args.out.now) (left_of c.go.result) (ap statement_of c.in-Go.is ∙ statement_of-go _ _) (c.go.ensures c.args.width c.args.input.now (g.K.Sink.taken c.args.out.now)))

pub statement-returns-in-Stop-clause-run : goal.statement-returns-in-Stop-clause-run
statement-returns-in-Stop-clause-run g t c = λ arms.
    rw c.left-in-Stop.ensures
    (at_statement (fortran77 c.args.width) c.args.stmt.now _ c.args.input.now (seen c.args.self.now) (seen c.stop.new.self) (g.K.Sink.taken c.args.out.now) (g.K.Sink.taken c.args.out.now) (left_of c.stop.result) (ap statement_of c.in-Stop.is ∙ statement_of-stop _) (c.stop.ensures c.args.width c.args.input.now (g.K.Sink.taken c.args.out.now)))

pub statement-returns-in-Read-clause-run : goal.statement-returns-in-Read-clause-run
statement-returns-in-Read-clause-run g t c = λ arms.
    rw c.left-in-Read.ensures
    (at_statement (fortran77 c.args.width) c.args.stmt.now _ c.args.input.now (seen c.args.self.now) (seen c.read_statement.new.self) (g.K.Sink.taken c.args.out.now) (g.K.Sink.taken c.args.out.now) (left_of c.read_statement.result) (ap statement_of c.in-Read.is ∙ statement_of-read _ _) (c.read_statement.ensures (g.K.Sink.taken c.args.out.now)))

pub statement-returns-in-Print-clause-run : goal.statement-returns-in-Print-clause-run
statement-returns-in-Print-clause-run g t c = λ arms.
    at_statement (fortran77 c.args.width) c.args.stmt.now _ c.args.input.now (seen c.args.self.now) (seen c.print_statement.new.self) (g.K.Sink.taken c.args.out.now) (g.K.Sink.taken c.print_statement.new.out) c.print_statement.result (ap statement_of c.in-Print.is ∙ statement_of-print _ _) (c.print_statement.ensures.run c.args.input.now)

pub statement-returns-in-Label-clause-run : goal.statement-returns-in-Label-clause-run
statement-returns-in-Label-clause-run g t c = λ arms.
    at_statement (fortran77 c.args.width) c.args.stmt.now _ c.args.input.now (seen c.args.self.now) (seen c.args.self.now) (g.K.Sink.taken c.args.out.now) (g.K.Sink.taken c.args.out.now) (Ok tt) (ap statement_of c.in-Label.is ∙ statement_of-label _) (label_runs (fortran77 c.args.width) _ c.args.input.now (seen c.args.self.now) (g.K.Sink.taken c.args.out.now))

pub statement-returns-in_err-done-in-If-clause-run : goal.statement-returns-in_err-done-in-If-clause-run
unfolding Chooses
statement-returns-in_err-done-in-If-clause-run g t c = λ arms.
    rw (residual c.from_residual.ensures.1)
    (at_statement (fortran77 c.args.width) c.args.stmt.now _ c.args.input.now (seen c.args.self.now) (seen c.branch-self.new.self) (g.K.Sink.taken c.args.out.now) (g.K.Sink.taken c.branch-self.new.out) (Err c.in_err-done-in-If.field-0.0) (ap statement_of c.in-If.is ∙ statement_of-if c.in-If.line c.in-If.arms c.in-If.other) (c.in_err-done-in-If.ensures.run (subst HasArms (ap statement_of c.in-If.is ∙ statement_of-if c.in-If.line c.in-If.arms c.in-If.other) arms).1 (λ limit. does_all (fortran77 c.args.width) limit (block_of c.in-If.other))))

pub statement-returns-then-done-clause-run : goal.statement-returns-then-done-clause-run
unfolding Chooses
statement-returns-then-done-clause-run g t c = λ arms.
    at_statement (fortran77 c.args.width) c.args.stmt.now _ c.args.input.now (seen c.args.self.now) (seen c.branch-self.new.self) (g.K.Sink.taken c.args.out.now) (g.K.Sink.taken c.branch-self.new.out) (Ok tt) (ap statement_of c.in-If.is ∙ statement_of-if c.in-If.line c.in-If.arms c.in-If.other)
    (subst (λ b. Chooses (fortran77 c.args.width) c.in-If.line (plain_arms c.in-If.arms) c.args.input.now (seen c.args.self.now) (g.K.Sink.taken c.args.out.now) (seen c.branch-self.new.self) (g.K.Sink.taken c.branch-self.new.out) (Ok b)) c.if-done.true (c.in_ok-done-in-If.ensures.run (subst HasArms (ap statement_of c.in-If.is ∙ statement_of-if c.in-If.line c.in-If.arms c.in-If.other) arms).1) (λ limit. does_all (fortran77 c.args.width) limit (block_of c.in-If.other)))

pub statement-returns-else-done-clause-run : goal.statement-returns-else-done-clause-run
unfolding Chooses
statement-returns-else-done-clause-run g t c = λ arms.
    at_statement (fortran77 c.args.width) c.args.stmt.now _ c.args.input.now (seen c.args.self.now) (seen c.block.new.self) (g.K.Sink.taken c.args.out.now) (g.K.Sink.taken c.block.new.out) c.block.result (ap statement_of c.in-If.is ∙ statement_of-if c.in-If.line c.in-If.arms c.in-If.other)
    (subst (λ b. Chooses (fortran77 c.args.width) c.in-If.line (plain_arms c.in-If.arms) c.args.input.now (seen c.args.self.now) (g.K.Sink.taken c.args.out.now) (seen c.branch-self.new.self) (g.K.Sink.taken c.branch-self.new.out) (Ok b)) c.if-done.false (c.in_ok-done-in-If.ensures.run (subst HasArms (ap statement_of c.in-If.is ∙ statement_of-if c.in-If.line c.in-If.arms c.in-If.other) arms).1) (λ limit. does_all (fortran77 c.args.width) limit (block_of c.in-If.other)) (seen c.block.new.self) (g.K.Sink.taken c.block.new.out) c.block.result
    (c.block.ensures.run (subst HasArms (ap statement_of c.in-If.is ∙ statement_of-if c.in-If.line c.in-If.arms c.in-If.other) arms).2))

pub statement-returns-in_err-turns-in-Do-clause-run : goal.statement-returns-in_err-turns-in-Do-clause-run
unfolding BeginsLoop
statement-returns-in_err-turns-in-Do-clause-run g t c = λ arms.
    rw (residual c.from_residual-in_err-turns-in-Do.ensures.1)
    (at_statement (fortran77 c.args.width) c.args.stmt.now _ c.args.input.now (seen c.args.self.now) (seen c.begin_loop.new.self) (g.K.Sink.taken c.args.out.now) (g.K.Sink.taken c.args.out.now) (Err (Halted c.in_err-turns-in-Do.field-0.0)) (ap statement_of c.in-Do.is ∙ statement_of-do c.in-Do.line c.in-Do.var c.in-Do.first c.in-Do.last c.in-Do.step c.in-Do.body)
    (c.in_err-turns-in-Do.ensures (λ limit. does_all (fortran77 c.args.width) limit (block_of c.in-Do.body)) c.args.input.now (g.K.Sink.taken c.args.out.now)))

pub statement-loop-init : goal.statement-loop-init
unfolding BeginsLoop
statement-loop-init g t c = (
  λ arms now last r h.
      at_statement (fortran77 c.args.width) c.args.stmt.now _ c.args.input.now (seen c.args.self.now) last (g.K.Sink.taken c.args.out.now) now r (ap statement_of c.in-Do.is ∙ statement_of-do c.in-Do.line c.in-Do.var c.in-Do.first c.in-Do.last c.in-Do.step c.in-Do.body)
      (c.in_ok-turns-in-Do.ensures (λ limit. does_all (fortran77 c.args.width) limit (block_of c.in-Do.body)) c.args.input.now (g.K.Sink.taken c.args.out.now) now last r
      (subst (λ n. Runs (λ limit. repeated n (turn (fortran77 c.args.width) limit c.in-Do.line c.in-Do.var c.in_ok-turns-in-Do.turns.step (does_all (fortran77 c.args.width) limit (block_of c.in-Do.body)))) c.args.input.now (seen c.begin_loop.new.self) (g.K.Sink.taken c.args.out.now) last now r) (let e : c.in_ok-turns-in-Do.turns.count - 0 ≡ c.in_ok-turns-in-Do.turns.count = omega arith in e) h)),
  refl,
  λ arms bytes. still _ bytes
      (λ now last r h.
      at_statement (fortran77 c.args.width) c.args.stmt.now _ c.args.input.now (seen c.args.self.now) last (Some bytes) now r (ap statement_of c.in-Do.is ∙ statement_of-do c.in-Do.line c.in-Do.var c.in-Do.first c.in-Do.last c.in-Do.step c.in-Do.body)
      (c.in_ok-turns-in-Do.ensures (λ limit. does_all (fortran77 c.args.width) limit (block_of c.in-Do.body)) c.args.input.now (Some bytes) now last r
      (subst (λ n. Runs (λ limit. repeated n (turn (fortran77 c.args.width) limit c.in-Do.line c.in-Do.var c.in_ok-turns-in-Do.turns.step (does_all (fortran77 c.args.width) limit (block_of c.in-Do.body)))) c.args.input.now (seen c.begin_loop.new.self) (Some bytes) last now r) (let e : c.in_ok-turns-in-Do.turns.count - 0 ≡ c.in_ok-turns-in-Do.turns.count = omega arith in e) h))),
)

pub statement-returns-in_err-count_step-in-Do-clause-run : goal.statement-returns-in_err-count_step-in-Do-clause-run
statement-returns-in_err-count_step-in-Do-clause-run g t c = λ arms.
    rw (residual c.from_residual-in_err-count_step-in-Do.ensures.1)
    (c.loop.invariant.0 arms (g.K.Sink.taken c.loop.out) (seen c.count_step.new.self) (Err (Halted c.in_err-count_step-in-Do.field-0.0))
    (at_turn (fortran77 c.args.width) c.in-Do.line c.in-Do.var c.in_ok-turns-in-Do.turns.step (λ limit. does_all (fortran77 c.args.width) limit (block_of c.in-Do.body)) c.args.input.now (c.in_ok-turns-in-Do.turns.count - c.loop.counter) (c.in_ok-turns-in-Do.turns.count - (c.loop.counter + 1)) (seen c.loop.self) (seen c.count_step.new.self) (g.K.Sink.taken c.loop.out) (g.K.Sink.taken c.loop.out) (Err (Halted c.in_err-count_step-in-Do.field-0.0)) (omega (arith, c.loop-test.true))
    (turn_cut (fortran77 c.args.width) c.in-Do.line c.in-Do.var c.in_ok-turns-in-Do.turns.step (λ limit. does_all (fortran77 c.args.width) limit (block_of c.in-Do.body)) c.args.input.now (c.in_ok-turns-in-Do.turns.count - (c.loop.counter + 1)) (seen c.loop.self) (seen c.count_step.new.self) (g.K.Sink.taken c.loop.out) c.in_err-count_step-in-Do.field-0.0 c.in_err-count_step-in-Do.ensures.counted)))

pub statement-returns-in_err-block-in-Do-clause-run : goal.statement-returns-in_err-block-in-Do-clause-run
statement-returns-in_err-block-in-Do-clause-run g t c = λ arms.
    rw (residual c.from_residual-in_err-block-in-Do.ensures.1)
    (c.loop.invariant.0 arms (g.K.Sink.taken c.block-in-loop.new.out) (seen c.block-in-loop.new.self) (Err c.in_err-block-in-Do.field-0.0)
    (at_turn (fortran77 c.args.width) c.in-Do.line c.in-Do.var c.in_ok-turns-in-Do.turns.step (λ limit. does_all (fortran77 c.args.width) limit (block_of c.in-Do.body)) c.args.input.now (c.in_ok-turns-in-Do.turns.count - c.loop.counter) (c.in_ok-turns-in-Do.turns.count - (c.loop.counter + 1)) (seen c.loop.self) (seen c.block-in-loop.new.self) (g.K.Sink.taken c.loop.out) (g.K.Sink.taken c.block-in-loop.new.out) (Err c.in_err-block-in-Do.field-0.0) (omega (arith, c.loop-test.true))
    (turn_left (fortran77 c.args.width) c.in-Do.line c.in-Do.var c.in_ok-turns-in-Do.turns.step (λ limit. does_all (fortran77 c.args.width) limit (block_of c.in-Do.body)) c.args.input.now (c.in_ok-turns-in-Do.turns.count - (c.loop.counter + 1)) (seen c.loop.self) (seen c.count_step.new.self) (seen c.block-in-loop.new.self) (g.K.Sink.taken c.loop.out) (g.K.Sink.taken c.block-in-loop.new.out) c.in_err-block-in-Do.field-0.0 (Extends-does_all (fortran77 c.args.width) (block_of c.in-Do.body)) c.in_ok-count_step-in-Do.ensures.counted (c.in_err-block-in-Do.ensures.run (subst HasArms (ap statement_of c.in-Do.is ∙ statement_of-do c.in-Do.line c.in-Do.var c.in-Do.first c.in-Do.last c.in-Do.step c.in-Do.body) arms)))))

pub statement-returns-in_err-increase-in-Do-clause-run : goal.statement-returns-in_err-increase-in-Do-clause-run
statement-returns-in_err-increase-in-Do-clause-run g t c = λ arms.
    rw (residual c.from_residual-in_err-increase-in-Do.ensures.1)
    (c.loop.invariant.0 arms (g.K.Sink.taken c.block-in-loop.new.out) (seen c.increase.new.self) (Err (Halted c.in_err-increase-in-Do.field-0.0))
    (at_turn (fortran77 c.args.width) c.in-Do.line c.in-Do.var c.in_ok-turns-in-Do.turns.step (λ limit. does_all (fortran77 c.args.width) limit (block_of c.in-Do.body)) c.args.input.now (c.in_ok-turns-in-Do.turns.count - c.loop.counter) (c.in_ok-turns-in-Do.turns.count - (c.loop.counter + 1)) (seen c.loop.self) (seen c.increase.new.self) (g.K.Sink.taken c.loop.out) (g.K.Sink.taken c.block-in-loop.new.out) (Err (Halted c.in_err-increase-in-Do.field-0.0)) (omega (arith, c.loop-test.true))
    (turn_stuck (fortran77 c.args.width) c.in-Do.line c.in-Do.var c.in_ok-turns-in-Do.turns.step (λ limit. does_all (fortran77 c.args.width) limit (block_of c.in-Do.body)) c.args.input.now (c.in_ok-turns-in-Do.turns.count - (c.loop.counter + 1)) (seen c.loop.self) (seen c.count_step.new.self) (seen c.block-in-loop.new.self) (seen c.increase.new.self) (g.K.Sink.taken c.loop.out) (g.K.Sink.taken c.block-in-loop.new.out) c.in_err-increase-in-Do.field-0.0 (Extends-does_all (fortran77 c.args.width) (block_of c.in-Do.body)) c.in_ok-count_step-in-Do.ensures.counted (c.in_ok-block-in-Do.ensures.run (subst HasArms (ap statement_of c.in-Do.is ∙ statement_of-do c.in-Do.line c.in-Do.var c.in-Do.first c.in-Do.last c.in-Do.step c.in-Do.body) arms))
    (subst (λ d. Runs (λ limit. increases (fortran77 c.args.width) limit c.in-Do.line c.in-Do.var d) c.args.input.now (seen c.block-in-loop.new.self) (g.K.Sink.taken c.block-in-loop.new.out) (seen c.increase.new.self) (g.K.Sink.taken c.block-in-loop.new.out) (Err (Halted c.in_err-increase-in-Do.field-0.0))) (settled c.in_ok-turns-in-Do.turns.step (search rules)) (c.in_err-increase-in-Do.ensures c.args.input.now (g.K.Sink.taken c.block-in-loop.new.out))))))

pub statement-loop-preserved : goal.statement-loop-preserved
statement-loop-preserved g t c = (
  λ arms now last r h.
      c.loop.invariant.0 arms now last r
      (at_turn (fortran77 c.args.width) c.in-Do.line c.in-Do.var c.in_ok-turns-in-Do.turns.step (λ limit. does_all (fortran77 c.args.width) limit (block_of c.in-Do.body)) c.args.input.now (c.in_ok-turns-in-Do.turns.count - c.loop.counter) (c.in_ok-turns-in-Do.turns.count - (c.loop.counter + 1)) (seen c.loop.self) last (g.K.Sink.taken c.loop.out) now r (omega (arith, c.loop-test.true))
      (turn_done (fortran77 c.args.width) c.in-Do.line c.in-Do.var c.in_ok-turns-in-Do.turns.step (λ limit. does_all (fortran77 c.args.width) limit (block_of c.in-Do.body)) c.args.input.now (c.in_ok-turns-in-Do.turns.count - (c.loop.counter + 1)) (seen c.loop.self) (seen c.count_step.new.self) (seen c.block-in-loop.new.self) (seen c.increase.new.self) last (g.K.Sink.taken c.loop.out) (g.K.Sink.taken c.block-in-loop.new.out) now r c.in_ok-count_step-in-Do.ensures.counted (c.in_ok-block-in-Do.ensures.run (subst HasArms (ap statement_of c.in-Do.is ∙ statement_of-do c.in-Do.line c.in-Do.var c.in-Do.first c.in-Do.last c.in-Do.step c.in-Do.body) arms))
      (subst (λ d. Runs (λ limit. increases (fortran77 c.args.width) limit c.in-Do.line c.in-Do.var d) c.args.input.now (seen c.block-in-loop.new.self) (g.K.Sink.taken c.block-in-loop.new.out) (seen c.increase.new.self) (g.K.Sink.taken c.block-in-loop.new.out) (Ok tt)) (settled c.in_ok-turns-in-Do.turns.step (search rules)) (c.in_ok-increase-in-Do.ensures c.args.input.now (g.K.Sink.taken c.block-in-loop.new.out))) h)),
  c.in_ok-block-in-Do.ensures.no_fault (λ e. cc) ∙ c.loop.invariant.1,
  λ arms bytes.
      let k = c.loop.invariant.2 arms bytes in
      let l = c.in_ok-block-in-Do.ensures.told (subst HasArms (ap statement_of c.in-Do.is ∙ statement_of-do c.in-Do.line c.in-Do.var c.in-Do.first c.in-Do.last c.in-Do.step c.in-Do.body) arms) k.after in
      both k l
      (λ now last r h.
      k.does now last r
      (at_turn (fortran77 c.args.width) c.in-Do.line c.in-Do.var c.in_ok-turns-in-Do.turns.step (λ limit. does_all (fortran77 c.args.width) limit (block_of c.in-Do.body)) c.args.input.now (c.in_ok-turns-in-Do.turns.count - c.loop.counter) (c.in_ok-turns-in-Do.turns.count - (c.loop.counter + 1)) (seen c.loop.self) last (Some k.after) now r (omega (arith, c.loop-test.true))
      (turn_done (fortran77 c.args.width) c.in-Do.line c.in-Do.var c.in_ok-turns-in-Do.turns.step (λ limit. does_all (fortran77 c.args.width) limit (block_of c.in-Do.body)) c.args.input.now (c.in_ok-turns-in-Do.turns.count - (c.loop.counter + 1)) (seen c.loop.self) (seen c.count_step.new.self) (seen c.block-in-loop.new.self) (seen c.increase.new.self) last (Some k.after) (Some l.after) now r c.in_ok-count_step-in-Do.ensures.counted l.does
      (subst (λ d. Runs (λ limit. increases (fortran77 c.args.width) limit c.in-Do.line c.in-Do.var d) c.args.input.now (seen c.block-in-loop.new.self) (Some l.after) (seen c.increase.new.self) (Some l.after) (Ok tt)) (settled c.in_ok-turns-in-Do.turns.step (search rules)) (c.in_ok-increase-in-Do.ensures c.args.input.now (Some l.after))) h))),
)

pub statement-returns-after-loop-clause-run : goal.statement-returns-after-loop-clause-run
statement-returns-after-loop-clause-run g t c = λ arms.
    c.loop.invariant.0 arms (g.K.Sink.taken c.loop.out) (seen c.loop.self) (Ok tt) (no_turn (fortran77 c.args.width) c.in-Do.line c.in-Do.var c.in_ok-turns-in-Do.turns.step (λ limit. does_all (fortran77 c.args.width) limit (block_of c.in-Do.body)) c.args.input.now (c.in_ok-turns-in-Do.turns.count - c.loop.counter) (seen c.loop.self) (g.K.Sink.taken c.loop.out) (omega (arith, c.loop-test.false)))

pub branch-returns-in_err-count_step-clause-run : goal.branch-returns-in_err-count_step-clause-run
unfolding Chooses
branch-returns-in_err-count_step-clause-run g t c = λ arms.
    rw (residual c.from_residual.ensures.1)
    (λ other. c.loop-arm.invariant.0 other (g.K.Sink.taken c.loop-arm.out) (seen c.count_step.new.self) (Err (Halted c.in_err-count_step.field-0.0))
    (arm_cut c.args.line other c.as_slice-arm-items.result.now c.loop-arm.arm-index c.arm-item.result (omega (arith, c.loop-arm-test.true)) c.arm-item.is c.args.input.now (seen c.loop-arm.self) (seen c.count_step.new.self) (fortran77 c.args.width) (g.K.Sink.taken c.loop-arm.out) c.in_err-count_step.field-0.0 c.in_err-count_step.ensures.counted))

pub branch-returns-in_err-holds-clause-run : goal.branch-returns-in_err-holds-clause-run
unfolding Chooses
branch-returns-in_err-holds-clause-run g t c = λ arms.
    rw (residual c.from_residual-in_err-holds.ensures.1)
    (λ other. c.loop-arm.invariant.0 other (g.K.Sink.taken c.loop-arm.out) (seen c.count_step.new.self) (Err (Halted c.in_err-holds.field-0.0))
    (arm_fault c.args.line other c.as_slice-arm-items.result.now c.loop-arm.arm-index c.arm-item.result (omega (arith, c.loop-arm-test.true)) c.arm-item.is c.args.input.now (seen c.loop-arm.self) (seen c.count_step.new.self) (fortran77 c.args.width) (g.K.Sink.taken c.loop-arm.out) c.in_err-holds.field-0.0 c.in_ok-count_step.ensures.counted (sym c.in_err-holds.was ∙ c.at.ensures ∙ ap (located c.args.line) (c.truth.ensures ∙ sym (same_truth c.args.width (expression_of (out-Arm c.arm-item.result).test) (seen c.count_step.new.self).store)))))

pub branch-returns-in_err-block-clause-run : goal.branch-returns-in_err-block-clause-run
unfolding Chooses
branch-returns-in_err-block-clause-run g t c = λ arms.
    let h = has_arms_on c.args.line (λ limit. nothing) c.as_slice-arm-items.result.now c.loop-arm.arm-index c.arm-item.result (omega (arith, c.loop-arm-test.true)) c.arm-item.is c.args.input.now (seen c.loop-arm.self) (seen c.count_step.new.self) (c.loop-arm.invariant.1 arms) in
    rw (residual c.from_residual-in_err-block.ensures.1)
    (λ other. c.loop-arm.invariant.0 other (g.K.Sink.taken c.block.new.out) (seen c.block.new.self) (Err c.in_err-block.field-0.0)
    (arm_true c.args.line other c.as_slice-arm-items.result.now c.loop-arm.arm-index c.arm-item.result (omega (arith, c.loop-arm-test.true)) c.arm-item.is c.args.input.now (seen c.loop-arm.self) (seen c.count_step.new.self) (fortran77 c.args.width) (seen c.block.new.self) (g.K.Sink.taken c.loop-arm.out) (g.K.Sink.taken c.block.new.out) (Err c.in_err-block.field-0.0) c.in_ok-holds.holds c.in_ok-count_step.ensures.counted (sym c.in_ok-holds.was ∙ c.at.ensures ∙ ap (located c.args.line) (c.truth.ensures ∙ sym (same_truth c.args.width (expression_of (out-Arm c.arm-item.result).test) (seen c.count_step.new.self).store))) c.if-holds.true (c.in_err-block.ensures.run h.0)))

pub branch-returns-then-holds-clause-run : goal.branch-returns-then-holds-clause-run
unfolding Chooses
branch-returns-then-holds-clause-run g t c = λ arms.
    let h = has_arms_on c.args.line (λ limit. nothing) c.as_slice-arm-items.result.now c.loop-arm.arm-index c.arm-item.result (omega (arith, c.loop-arm-test.true)) c.arm-item.is c.args.input.now (seen c.loop-arm.self) (seen c.count_step.new.self) (c.loop-arm.invariant.1 arms) in
    λ other. c.loop-arm.invariant.0 other (g.K.Sink.taken c.block.new.out) (seen c.block.new.self) (Ok tt)
    (arm_true c.args.line other c.as_slice-arm-items.result.now c.loop-arm.arm-index c.arm-item.result (omega (arith, c.loop-arm-test.true)) c.arm-item.is c.args.input.now (seen c.loop-arm.self) (seen c.count_step.new.self) (fortran77 c.args.width) (seen c.block.new.self) (g.K.Sink.taken c.loop-arm.out) (g.K.Sink.taken c.block.new.out) (Ok tt) c.in_ok-holds.holds c.in_ok-count_step.ensures.counted (sym c.in_ok-holds.was ∙ c.at.ensures ∙ ap (located c.args.line) (c.truth.ensures ∙ sym (same_truth c.args.width (expression_of (out-Arm c.arm-item.result).test) (seen c.count_step.new.self).store))) c.if-holds.true (c.in_ok-block.ensures.run h.0))

pub branch-loop-arm-preserved : goal.branch-loop-arm-preserved
branch-loop-arm-preserved g t c = (
  λ other now last r h. c.loop-arm.invariant.0 other now last r (arm_false c.args.line other c.as_slice-arm-items.result.now c.loop-arm.arm-index c.arm-item.result (omega (arith, c.loop-arm-test.true)) c.arm-item.is c.args.input.now (seen c.loop-arm.self) (seen c.count_step.new.self) (fortran77 c.args.width) last (g.K.Sink.taken c.loop-arm.out) now r c.in_ok-holds.holds c.in_ok-count_step.ensures.counted (sym c.in_ok-holds.was ∙ c.at.ensures ∙ ap (located c.args.line) (c.truth.ensures ∙ sym (same_truth c.args.width (expression_of (out-Arm c.arm-item.result).test) (seen c.count_step.new.self).store))) c.if-holds.false h),
  λ arms. (has_arms_on c.args.line (λ limit. nothing) c.as_slice-arm-items.result.now c.loop-arm.arm-index c.arm-item.result (omega (arith, c.loop-arm-test.true)) c.arm-item.is c.args.input.now (seen c.loop-arm.self) (seen c.count_step.new.self) (c.loop-arm.invariant.1 arms)).1,
  c.loop-arm.invariant.2,
  λ bytes.
      let k = c.loop-arm.invariant.3 bytes in
      kept k
      (λ other now last r h. k.does other now last r (arm_false c.args.line other c.as_slice-arm-items.result.now c.loop-arm.arm-index c.arm-item.result (omega (arith, c.loop-arm-test.true)) c.arm-item.is c.args.input.now (seen c.loop-arm.self) (seen c.count_step.new.self) (fortran77 c.args.width) last (Some k.after) now r c.in_ok-holds.holds c.in_ok-count_step.ensures.counted (sym c.in_ok-holds.was ∙ c.at.ensures ∙ ap (located c.args.line) (c.truth.ensures ∙ sym (same_truth c.args.width (expression_of (out-Arm c.arm-item.result).test) (seen c.count_step.new.self).store))) c.if-holds.false h)),
)

pub branch-returns-clause-run : goal.branch-returns-clause-run
unfolding Chooses
branch-returns-clause-run g t c = λ arms.
    λ other end after r h. c.loop-arm.invariant.0 other after end r
    (arms_done (fortran77 c.args.width) c.args.line other c.as_slice-arm-items.result.now c.loop-arm.arm-index c.args.input.now (seen c.loop-arm.self) end (g.K.Sink.taken c.loop-arm.out) after r (omega (arith, c.loop-arm-test.false)) h)

pub block-loop-stmt-init : goal.block-loop-stmt-init
block-loop-stmt-init g t c = (
  λ arms. (
    block_arms c.args.block.now c.as_slice-stmt-items.result.now c.as_slice-stmt-items.ensures arms,
    λ now last r h. block_begins c.args.block.now c.as_slice-stmt-items.result.now c.as_slice-stmt-items.ensures (fortran77 c.args.width) c.args.input.now (seen c.args.self.now) last (g.K.Sink.taken c.args.out.now) now r h,
  ),
  refl,
  λ arms bytes. still _ bytes (λ now last r h. block_begins c.args.block.now c.as_slice-stmt-items.result.now c.as_slice-stmt-items.ensures (fortran77 c.args.width) c.args.input.now (seen c.args.self.now) last (Some bytes) now r h),
)

pub block-loop-stmt-preserved-in-Some : goal.block-loop-stmt-preserved-in-Some
block-loop-stmt-preserved-in-Some g t c = (
  λ arms.
      let k = c.loop-stmt.invariant.0 arms in
      let a = has_arms_here c.as_slice-stmt-items.result.now c.loop-stmt.stmt-index c.stmt-item.result (omega (arith, c.loop-stmt-test.true)) c.stmt-item.is c.args.input.now k.0 in (
        a.1,
        λ now last r h. k.1 now last r
            (subst (λ j. RunsOn (way_at j) (left_of_block (fortran77 c.args.width) (drop c.loop-stmt.stmt-index c.as_slice-stmt-items.result.now)) c.args.input.now (seen c.loop-stmt.self) (g.K.Sink.taken c.loop-stmt.out) last now r) (sym c.in-Some.is) (block_passed c.as_slice-stmt-items.result.now c.loop-stmt.stmt-index c.stmt-item.result (omega (arith, c.loop-stmt-test.true)) c.stmt-item.is c.args.input.now (fortran77 c.args.width) c.in-Some.label (seen c.loop-stmt.self) last (g.K.Sink.taken c.loop-stmt.out) now r a.0 (subst (λ j. RunsOn (way_at j) (left_of_block (fortran77 c.args.width) (drop (c.loop-stmt.stmt-index + 1) c.as_slice-stmt-items.result.now)) c.args.input.now (seen c.loop-stmt.self) (g.K.Sink.taken c.loop-stmt.out) last now r) c.passed-jump.ensures h))),
      ),
  c.loop-stmt.invariant.1,
  λ arms bytes.
      let k = c.loop-stmt.invariant.0 arms in
      let a = has_arms_here c.as_slice-stmt-items.result.now c.loop-stmt.stmt-index c.stmt-item.result (omega (arith, c.loop-stmt-test.true)) c.stmt-item.is c.args.input.now k.0 in
      let q = c.loop-stmt.invariant.2 arms bytes in
      kept q
      (λ now last r h. q.does now last r
      (subst (λ j. RunsOn (way_at j) (left_of_block (fortran77 c.args.width) (drop c.loop-stmt.stmt-index c.as_slice-stmt-items.result.now)) c.args.input.now (seen c.loop-stmt.self) (Some q.after) last now r) (sym c.in-Some.is) (block_passed c.as_slice-stmt-items.result.now c.loop-stmt.stmt-index c.stmt-item.result (omega (arith, c.loop-stmt-test.true)) c.stmt-item.is c.args.input.now (fortran77 c.args.width) c.in-Some.label (seen c.loop-stmt.self) last (Some q.after) now r a.0 (subst (λ j. RunsOn (way_at j) (left_of_block (fortran77 c.args.width) (drop (c.loop-stmt.stmt-index + 1) c.as_slice-stmt-items.result.now)) c.args.input.now (seen c.loop-stmt.self) (Some q.after) last now r) c.passed-jump.ensures h)))),
)

pub block-returns-in_err-jump-clause-run : goal.block-returns-in_err-jump-clause-run
block-returns-in_err-jump-clause-run g t c = λ arms.
    let k = c.loop-stmt.invariant.0 arms in
    let a = has_arms_here c.as_slice-stmt-items.result.now c.loop-stmt.stmt-index c.stmt-item.result (omega (arith, c.loop-stmt-test.true)) c.stmt-item.is c.args.input.now k.0 in
    rw (residual c.from_residual.ensures.1)
    (k.1 (g.K.Sink.taken c.statement.new.out) (seen c.statement.new.self) (Err c.in_err-jump.field-0.0)
    (subst (λ j. RunsOn (way_at j) (left_of_block (fortran77 c.args.width) (drop c.loop-stmt.stmt-index c.as_slice-stmt-items.result.now)) c.args.input.now (seen c.loop-stmt.self) (g.K.Sink.taken c.loop-stmt.out) (seen c.statement.new.self) (g.K.Sink.taken c.statement.new.out) (Err c.in_err-jump.field-0.0)) (sym (none_left c.loop-stmt.jump c.in_default.not-Some)) (block_left c.as_slice-stmt-items.result.now c.loop-stmt.stmt-index c.stmt-item.result (omega (arith, c.loop-stmt-test.true)) c.stmt-item.is c.args.input.now (fortran77 c.args.width) (seen c.loop-stmt.self) (seen c.statement.new.self) (g.K.Sink.taken c.loop-stmt.out) (g.K.Sink.taken c.statement.new.out) c.statement.result c.in_err-jump.field-0.0 (sym c.in_err-jump.was ∙ c.landed.ensures) (c.statement.ensures.run a.0))))

pub block-loop-stmt-preserved : goal.block-loop-stmt-preserved
block-loop-stmt-preserved g t c = (
  λ arms.
      let k = c.loop-stmt.invariant.0 arms in
      let a = has_arms_here c.as_slice-stmt-items.result.now c.loop-stmt.stmt-index c.stmt-item.result (omega (arith, c.loop-stmt-test.true)) c.stmt-item.is c.args.input.now k.0 in (
        a.1,
        λ now last r h. k.1 now last r
            (subst (λ j. RunsOn (way_at j) (left_of_block (fortran77 c.args.width) (drop c.loop-stmt.stmt-index c.as_slice-stmt-items.result.now)) c.args.input.now (seen c.loop-stmt.self) (g.K.Sink.taken c.loop-stmt.out) last now r) (sym (none_left c.loop-stmt.jump c.in_default.not-Some)) (block_more c.as_slice-stmt-items.result.now c.loop-stmt.stmt-index c.stmt-item.result (omega (arith, c.loop-stmt-test.true)) c.stmt-item.is c.args.input.now (fortran77 c.args.width) (seen c.loop-stmt.self) (seen c.statement.new.self) last (g.K.Sink.taken c.loop-stmt.out) (g.K.Sink.taken c.statement.new.out) now c.statement.result r c.in_ok-jump.jump (sym c.in_ok-jump.was ∙ c.landed.ensures) (c.statement.ensures.run a.0) h)),
      ),
  c.statement.ensures.no_fault (went_on c.statement.result _ (sym c.in_ok-jump.was ∙ c.landed.ensures)) ∙ c.loop-stmt.invariant.1,
  λ arms bytes.
      let k = c.loop-stmt.invariant.0 arms in
      let a = has_arms_here c.as_slice-stmt-items.result.now c.loop-stmt.stmt-index c.stmt-item.result (omega (arith, c.loop-stmt-test.true)) c.stmt-item.is c.args.input.now k.0 in
      let q = c.loop-stmt.invariant.2 arms bytes in
      let l = c.statement.ensures.told a.0 q.after in
      both q l
      (λ now last r h. q.does now last r
      (subst (λ j. RunsOn (way_at j) (left_of_block (fortran77 c.args.width) (drop c.loop-stmt.stmt-index c.as_slice-stmt-items.result.now)) c.args.input.now (seen c.loop-stmt.self) (Some q.after) last now r) (sym (none_left c.loop-stmt.jump c.in_default.not-Some)) (block_more c.as_slice-stmt-items.result.now c.loop-stmt.stmt-index c.stmt-item.result (omega (arith, c.loop-stmt-test.true)) c.stmt-item.is c.args.input.now (fortran77 c.args.width) (seen c.loop-stmt.self) (seen c.statement.new.self) last (Some q.after) (Some l.after) now c.statement.result r c.in_ok-jump.jump (sym c.in_ok-jump.was ∙ c.landed.ensures) l.does h))),
)

pub block-returns-in-None-clause-run : goal.block-returns-in-None-clause-run
block-returns-in-None-clause-run g t c = λ arms.
    (c.loop-stmt.invariant.0 arms).1 (g.K.Sink.taken c.loop-stmt.out) (seen c.loop-stmt.self) (Ok tt)
    (subst (λ j. RunsOn (way_at j) (left_of_block (fortran77 c.args.width) (drop c.loop-stmt.stmt-index c.as_slice-stmt-items.result.now)) c.args.input.now (seen c.loop-stmt.self) (g.K.Sink.taken c.loop-stmt.out) (seen c.loop-stmt.self) (g.K.Sink.taken c.loop-stmt.out) (Ok tt)) (sym c.in-None.is) (block_done (fortran77 c.args.width) c.as_slice-stmt-items.result.now c.loop-stmt.stmt-index (omega (arith, c.loop-stmt-test.false)) c.args.input.now (seen c.loop-stmt.self) (g.K.Sink.taken c.loop-stmt.out)))

pub block-returns-in-Some-jump-clause-run : goal.block-returns-in-Some-jump-clause-run
block-returns-in-Some-jump-clause-run g t c = λ arms.
    (c.loop-stmt.invariant.0 arms).1 (g.K.Sink.taken c.loop-stmt.out) (seen c.loop-stmt.self) (Err (Halted (Jump c.in-Some-jump.label)))
    (subst (λ j. RunsOn (way_at j) (left_of_block (fortran77 c.args.width) (drop c.loop-stmt.stmt-index c.as_slice-stmt-items.result.now)) c.args.input.now (seen c.loop-stmt.self) (g.K.Sink.taken c.loop-stmt.out) (seen c.loop-stmt.self) (g.K.Sink.taken c.loop-stmt.out) (Err (Halted (Jump c.in-Some-jump.label)))) (sym c.in-Some-jump.is) (block_jumped (fortran77 c.args.width) c.as_slice-stmt-items.result.now c.loop-stmt.stmt-index (omega (arith, c.loop-stmt-test.false)) c.args.input.now (seen c.loop-stmt.self) (g.K.Sink.taken c.loop-stmt.out) c.in-Some-jump.label))

pub statement-returns-in-Masked-clause-run : goal.statement-returns-in-Masked-clause-run
statement-returns-in-Masked-clause-run g t c = λ arms.
    at_statement (fortran77 c.args.width) c.args.stmt.now _ c.args.input.now (seen c.args.self.now) (seen c.args.self.now) (g.K.Sink.taken c.args.out.now)
    (g.K.Sink.taken c.args.out.now) (Ok tt) (ap statement_of c.in-Masked.is ∙ statement_of-masked _ _ _ _ _)
    (Runs-nothing c.args.input.now (seen c.args.self.now) (g.K.Sink.taken c.args.out.now))

pub statement-returns-in-Allocate-clause-run : goal.statement-returns-in-Allocate-clause-run
statement-returns-in-Allocate-clause-run g t c = λ arms.
    at_statement (fortran77 c.args.width) c.args.stmt.now _ c.args.input.now (seen c.args.self.now) (seen c.args.self.now) (g.K.Sink.taken c.args.out.now)
    (g.K.Sink.taken c.args.out.now) (Ok tt) (ap statement_of c.in-Allocate.is ∙ statement_of-allocate _ _ _)
    (Runs-nothing c.args.input.now (seen c.args.self.now) (g.K.Sink.taken c.args.out.now))

pub statement-returns-in-Deallocate-clause-run : goal.statement-returns-in-Deallocate-clause-run
statement-returns-in-Deallocate-clause-run g t c = λ arms.
    at_statement (fortran77 c.args.width) c.args.stmt.now _ c.args.input.now (seen c.args.self.now) (seen c.args.self.now) (g.K.Sink.taken c.args.out.now)
    (g.K.Sink.taken c.args.out.now) (Ok tt) (ap statement_of c.in-Deallocate.is ∙ statement_of-deallocate _ _)
    (Runs-nothing c.args.input.now (seen c.args.self.now) (g.K.Sink.taken c.args.out.now))

-- ---- the sink, where nothing is given

pub statement-returns-in-Assign-clause-told : goal.statement-returns-in-Assign-clause-told
statement-returns-in-Assign-clause-told g t c = λ arms bytes.
    still _ bytes
    (rw c.left.ensures
    (at_statement (fortran77 c.args.width) c.args.stmt.now _ c.args.input.now (seen c.args.self.now) (seen c.assignment.new.self) (Some bytes) (Some bytes) (left_of c.assignment.result) (ap statement_of c.in-Assign.is ∙ statement_of-assign _ _ _ _) (c.assignment.ensures c.args.input.now (Some bytes))))

pub statement-returns-in-Go-clause-told : goal.statement-returns-in-Go-clause-told
statement-returns-in-Go-clause-told g t c = λ arms bytes.
    still _ bytes
    (rw c.left-in-Go.ensures
    (at_statement (fortran77 c.args.width) c.args.stmt.now _ c.args.input.now (seen c.args.self.now) (seen c.go.new.self) (Some bytes) (Some bytes) (left_of c.go.result) (ap statement_of c.in-Go.is ∙ statement_of-go _ _) (c.go.ensures c.args.width c.args.input.now (Some bytes))))

pub statement-returns-in-Stop-clause-told : goal.statement-returns-in-Stop-clause-told
statement-returns-in-Stop-clause-told g t c = λ arms bytes.
    still _ bytes
    (rw c.left-in-Stop.ensures
    (at_statement (fortran77 c.args.width) c.args.stmt.now _ c.args.input.now (seen c.args.self.now) (seen c.stop.new.self) (Some bytes) (Some bytes) (left_of c.stop.result) (ap statement_of c.in-Stop.is ∙ statement_of-stop _) (c.stop.ensures c.args.width c.args.input.now (Some bytes))))

pub statement-returns-in-Read-clause-told : goal.statement-returns-in-Read-clause-told
statement-returns-in-Read-clause-told g t c = λ arms bytes.
    still _ bytes
    (rw c.left-in-Read.ensures
    (at_statement (fortran77 c.args.width) c.args.stmt.now _ c.args.input.now (seen c.args.self.now) (seen c.read_statement.new.self) (Some bytes) (Some bytes) (left_of c.read_statement.result) (ap statement_of c.in-Read.is ∙ statement_of-read _ _) (c.read_statement.ensures (Some bytes))))

pub statement-returns-in-Label-clause-told : goal.statement-returns-in-Label-clause-told
statement-returns-in-Label-clause-told g t c = λ arms bytes.
    still _ bytes
    (at_statement (fortran77 c.args.width) c.args.stmt.now _ c.args.input.now (seen c.args.self.now) (seen c.args.self.now) (Some bytes) (Some bytes) (Ok tt) (ap statement_of c.in-Label.is ∙ statement_of-label _) (label_runs (fortran77 c.args.width) _ c.args.input.now (seen c.args.self.now) (Some bytes)))

pub statement-returns-in-Masked-clause-told : goal.statement-returns-in-Masked-clause-told
statement-returns-in-Masked-clause-told g t c = λ arms bytes.
    still _ bytes
    (at_statement (fortran77 c.args.width) c.args.stmt.now _ c.args.input.now (seen c.args.self.now) (seen c.args.self.now) (Some bytes)
    (Some bytes) (Ok tt) (ap statement_of c.in-Masked.is ∙ statement_of-masked _ _ _ _ _)
    (Runs-nothing c.args.input.now (seen c.args.self.now) (Some bytes)))

pub statement-returns-in-Allocate-clause-told : goal.statement-returns-in-Allocate-clause-told
statement-returns-in-Allocate-clause-told g t c = λ arms bytes.
    still _ bytes
    (at_statement (fortran77 c.args.width) c.args.stmt.now _ c.args.input.now (seen c.args.self.now) (seen c.args.self.now) (Some bytes)
    (Some bytes) (Ok tt) (ap statement_of c.in-Allocate.is ∙ statement_of-allocate _ _ _)
    (Runs-nothing c.args.input.now (seen c.args.self.now) (Some bytes)))

pub statement-returns-in-Deallocate-clause-told : goal.statement-returns-in-Deallocate-clause-told
statement-returns-in-Deallocate-clause-told g t c = λ arms bytes.
    still _ bytes
    (at_statement (fortran77 c.args.width) c.args.stmt.now _ c.args.input.now (seen c.args.self.now) (seen c.args.self.now) (Some bytes)
    (Some bytes) (Ok tt) (ap statement_of c.in-Deallocate.is ∙ statement_of-deallocate _ _)
    (Runs-nothing c.args.input.now (seen c.args.self.now) (Some bytes)))

pub statement-returns-in-Print-clause-told : goal.statement-returns-in-Print-clause-told
statement-returns-in-Print-clause-told g t c = λ arms bytes.
    let k = c.print_statement.ensures.told c.args.input.now bytes in
    kept k
    (at_statement (fortran77 c.args.width) c.args.stmt.now _ c.args.input.now (seen c.args.self.now) (seen c.print_statement.new.self) (Some bytes) (Some k.after) c.print_statement.result (ap statement_of c.in-Print.is ∙ statement_of-print _ _) k.does)

pub statement-returns-in_err-done-in-If-clause-told : goal.statement-returns-in_err-done-in-If-clause-told
unfolding Chooses
statement-returns-in_err-done-in-If-clause-told g t c = λ arms bytes.
    let k = c.in_err-done-in-If.ensures.told (subst HasArms (ap statement_of c.in-If.is ∙ statement_of-if c.in-If.line c.in-If.arms c.in-If.other) arms).1 bytes in
    kept k
    (rw (residual c.from_residual.ensures.1)
    (at_statement (fortran77 c.args.width) c.args.stmt.now _ c.args.input.now (seen c.args.self.now) (seen c.branch-self.new.self) (Some bytes) (Some k.after) (Err c.in_err-done-in-If.field-0.0) (ap statement_of c.in-If.is ∙ statement_of-if c.in-If.line c.in-If.arms c.in-If.other) (k.does (λ limit. does_all (fortran77 c.args.width) limit (block_of c.in-If.other)))))

pub statement-returns-then-done-clause-told : goal.statement-returns-then-done-clause-told
unfolding Chooses
statement-returns-then-done-clause-told g t c = λ arms bytes.
    let k = c.in_ok-done-in-If.ensures.told (subst HasArms (ap statement_of c.in-If.is ∙ statement_of-if c.in-If.line c.in-If.arms c.in-If.other) arms).1 bytes in
    kept k
    (at_statement (fortran77 c.args.width) c.args.stmt.now _ c.args.input.now (seen c.args.self.now) (seen c.branch-self.new.self) (Some bytes) (Some k.after) (Ok tt) (ap statement_of c.in-If.is ∙ statement_of-if c.in-If.line c.in-If.arms c.in-If.other)
    (subst (λ b. Chooses (fortran77 c.args.width) c.in-If.line (plain_arms c.in-If.arms) c.args.input.now (seen c.args.self.now) (Some bytes) (seen c.branch-self.new.self) (Some k.after) (Ok b)) c.if-done.true k.does (λ limit. does_all (fortran77 c.args.width) limit (block_of c.in-If.other))))

pub statement-returns-else-done-clause-told : goal.statement-returns-else-done-clause-told
unfolding Chooses
statement-returns-else-done-clause-told g t c = λ arms bytes.
    let k = c.in_ok-done-in-If.ensures.told (subst HasArms (ap statement_of c.in-If.is ∙ statement_of-if c.in-If.line c.in-If.arms c.in-If.other) arms).1 bytes in
    let l = c.block.ensures.told (subst HasArms (ap statement_of c.in-If.is ∙ statement_of-if c.in-If.line c.in-If.arms c.in-If.other) arms).2 k.after in
    both k l
    (at_statement (fortran77 c.args.width) c.args.stmt.now _ c.args.input.now (seen c.args.self.now) (seen c.block.new.self) (Some bytes) (Some l.after) c.block.result (ap statement_of c.in-If.is ∙ statement_of-if c.in-If.line c.in-If.arms c.in-If.other)
    (subst (λ b. Chooses (fortran77 c.args.width) c.in-If.line (plain_arms c.in-If.arms) c.args.input.now (seen c.args.self.now) (Some bytes) (seen c.branch-self.new.self) (Some k.after) (Ok b)) c.if-done.false k.does (λ limit. does_all (fortran77 c.args.width) limit (block_of c.in-If.other)) (seen c.block.new.self) (Some l.after) c.block.result
    l.does))

pub statement-returns-in_err-turns-in-Do-clause-told : goal.statement-returns-in_err-turns-in-Do-clause-told
unfolding BeginsLoop
statement-returns-in_err-turns-in-Do-clause-told g t c = λ arms bytes.
    still _ bytes
    (rw (residual c.from_residual-in_err-turns-in-Do.ensures.1)
    (at_statement (fortran77 c.args.width) c.args.stmt.now _ c.args.input.now (seen c.args.self.now) (seen c.begin_loop.new.self) (Some bytes) (Some bytes) (Err (Halted c.in_err-turns-in-Do.field-0.0)) (ap statement_of c.in-Do.is ∙ statement_of-do c.in-Do.line c.in-Do.var c.in-Do.first c.in-Do.last c.in-Do.step c.in-Do.body)
    (c.in_err-turns-in-Do.ensures (λ limit. does_all (fortran77 c.args.width) limit (block_of c.in-Do.body)) c.args.input.now (Some bytes))))

pub statement-returns-in_err-count_step-in-Do-clause-told : goal.statement-returns-in_err-count_step-in-Do-clause-told
statement-returns-in_err-count_step-in-Do-clause-told g t c = λ arms bytes.
    let k = c.loop.invariant.2 arms bytes in
    kept k
    (rw (residual c.from_residual-in_err-count_step-in-Do.ensures.1)
    (k.does (Some k.after) (seen c.count_step.new.self) (Err (Halted c.in_err-count_step-in-Do.field-0.0))
    (at_turn (fortran77 c.args.width) c.in-Do.line c.in-Do.var c.in_ok-turns-in-Do.turns.step (λ limit. does_all (fortran77 c.args.width) limit (block_of c.in-Do.body)) c.args.input.now (c.in_ok-turns-in-Do.turns.count - c.loop.counter) (c.in_ok-turns-in-Do.turns.count - (c.loop.counter + 1)) (seen c.loop.self) (seen c.count_step.new.self) (Some k.after) (Some k.after) (Err (Halted c.in_err-count_step-in-Do.field-0.0)) (omega (arith, c.loop-test.true))
    (turn_cut (fortran77 c.args.width) c.in-Do.line c.in-Do.var c.in_ok-turns-in-Do.turns.step (λ limit. does_all (fortran77 c.args.width) limit (block_of c.in-Do.body)) c.args.input.now (c.in_ok-turns-in-Do.turns.count - (c.loop.counter + 1)) (seen c.loop.self) (seen c.count_step.new.self) (Some k.after) c.in_err-count_step-in-Do.field-0.0 c.in_err-count_step-in-Do.ensures.counted))))

pub statement-returns-in_err-block-in-Do-clause-told : goal.statement-returns-in_err-block-in-Do-clause-told
statement-returns-in_err-block-in-Do-clause-told g t c = λ arms bytes.
    let k = c.loop.invariant.2 arms bytes in
    let l = c.in_err-block-in-Do.ensures.told (subst HasArms (ap statement_of c.in-Do.is ∙ statement_of-do c.in-Do.line c.in-Do.var c.in-Do.first c.in-Do.last c.in-Do.step c.in-Do.body) arms) k.after in
    both k l
    (rw (residual c.from_residual-in_err-block-in-Do.ensures.1)
    (k.does (Some l.after) (seen c.block-in-loop.new.self) (Err c.in_err-block-in-Do.field-0.0)
    (at_turn (fortran77 c.args.width) c.in-Do.line c.in-Do.var c.in_ok-turns-in-Do.turns.step (λ limit. does_all (fortran77 c.args.width) limit (block_of c.in-Do.body)) c.args.input.now (c.in_ok-turns-in-Do.turns.count - c.loop.counter) (c.in_ok-turns-in-Do.turns.count - (c.loop.counter + 1)) (seen c.loop.self) (seen c.block-in-loop.new.self) (Some k.after) (Some l.after) (Err c.in_err-block-in-Do.field-0.0) (omega (arith, c.loop-test.true))
    (turn_left (fortran77 c.args.width) c.in-Do.line c.in-Do.var c.in_ok-turns-in-Do.turns.step (λ limit. does_all (fortran77 c.args.width) limit (block_of c.in-Do.body)) c.args.input.now (c.in_ok-turns-in-Do.turns.count - (c.loop.counter + 1)) (seen c.loop.self) (seen c.count_step.new.self) (seen c.block-in-loop.new.self) (Some k.after) (Some l.after) c.in_err-block-in-Do.field-0.0 (Extends-does_all (fortran77 c.args.width) (block_of c.in-Do.body)) c.in_ok-count_step-in-Do.ensures.counted l.does))))

pub statement-returns-in_err-increase-in-Do-clause-told : goal.statement-returns-in_err-increase-in-Do-clause-told
statement-returns-in_err-increase-in-Do-clause-told g t c = λ arms bytes.
    let k = c.loop.invariant.2 arms bytes in
    let l = c.in_ok-block-in-Do.ensures.told (subst HasArms (ap statement_of c.in-Do.is ∙ statement_of-do c.in-Do.line c.in-Do.var c.in-Do.first c.in-Do.last c.in-Do.step c.in-Do.body) arms) k.after in
    both k l
    (rw (residual c.from_residual-in_err-increase-in-Do.ensures.1)
    (k.does (Some l.after) (seen c.increase.new.self) (Err (Halted c.in_err-increase-in-Do.field-0.0))
    (at_turn (fortran77 c.args.width) c.in-Do.line c.in-Do.var c.in_ok-turns-in-Do.turns.step (λ limit. does_all (fortran77 c.args.width) limit (block_of c.in-Do.body)) c.args.input.now (c.in_ok-turns-in-Do.turns.count - c.loop.counter) (c.in_ok-turns-in-Do.turns.count - (c.loop.counter + 1)) (seen c.loop.self) (seen c.increase.new.self) (Some k.after) (Some l.after) (Err (Halted c.in_err-increase-in-Do.field-0.0)) (omega (arith, c.loop-test.true))
    (turn_stuck (fortran77 c.args.width) c.in-Do.line c.in-Do.var c.in_ok-turns-in-Do.turns.step (λ limit. does_all (fortran77 c.args.width) limit (block_of c.in-Do.body)) c.args.input.now (c.in_ok-turns-in-Do.turns.count - (c.loop.counter + 1)) (seen c.loop.self) (seen c.count_step.new.self) (seen c.block-in-loop.new.self) (seen c.increase.new.self) (Some k.after) (Some l.after) c.in_err-increase-in-Do.field-0.0 (Extends-does_all (fortran77 c.args.width) (block_of c.in-Do.body)) c.in_ok-count_step-in-Do.ensures.counted l.does
    (subst (λ d. Runs (λ limit. increases (fortran77 c.args.width) limit c.in-Do.line c.in-Do.var d) c.args.input.now (seen c.block-in-loop.new.self) (Some l.after) (seen c.increase.new.self) (Some l.after) (Err (Halted c.in_err-increase-in-Do.field-0.0))) (settled c.in_ok-turns-in-Do.turns.step (search rules)) (c.in_err-increase-in-Do.ensures c.args.input.now (Some l.after)))))))

pub statement-returns-after-loop-clause-told : goal.statement-returns-after-loop-clause-told
statement-returns-after-loop-clause-told g t c = λ arms bytes.
    let k = c.loop.invariant.2 arms bytes in
    kept k
    (k.does (Some k.after) (seen c.loop.self) (Ok tt) (no_turn (fortran77 c.args.width) c.in-Do.line c.in-Do.var c.in_ok-turns-in-Do.turns.step (λ limit. does_all (fortran77 c.args.width) limit (block_of c.in-Do.body)) c.args.input.now (c.in_ok-turns-in-Do.turns.count - c.loop.counter) (seen c.loop.self) (Some k.after) (omega (arith, c.loop-test.false))))

pub branch-returns-in_err-count_step-clause-told : goal.branch-returns-in_err-count_step-clause-told
unfolding Chooses
branch-returns-in_err-count_step-clause-told g t c = λ arms bytes.
    let k = c.loop-arm.invariant.3 bytes in
    kept k
    (rw (residual c.from_residual.ensures.1)
    (λ other. k.does other (Some k.after) (seen c.count_step.new.self) (Err (Halted c.in_err-count_step.field-0.0))
    (arm_cut c.args.line other c.as_slice-arm-items.result.now c.loop-arm.arm-index c.arm-item.result (omega (arith, c.loop-arm-test.true)) c.arm-item.is c.args.input.now (seen c.loop-arm.self) (seen c.count_step.new.self) (fortran77 c.args.width) (Some k.after) c.in_err-count_step.field-0.0 c.in_err-count_step.ensures.counted)))

pub branch-returns-in_err-holds-clause-told : goal.branch-returns-in_err-holds-clause-told
unfolding Chooses
branch-returns-in_err-holds-clause-told g t c = λ arms bytes.
    let k = c.loop-arm.invariant.3 bytes in
    kept k
    (rw (residual c.from_residual-in_err-holds.ensures.1)
    (λ other. k.does other (Some k.after) (seen c.count_step.new.self) (Err (Halted c.in_err-holds.field-0.0))
    (arm_fault c.args.line other c.as_slice-arm-items.result.now c.loop-arm.arm-index c.arm-item.result (omega (arith, c.loop-arm-test.true)) c.arm-item.is c.args.input.now (seen c.loop-arm.self) (seen c.count_step.new.self) (fortran77 c.args.width) (Some k.after) c.in_err-holds.field-0.0 c.in_ok-count_step.ensures.counted (sym c.in_err-holds.was ∙ c.at.ensures ∙ ap (located c.args.line) (c.truth.ensures ∙ sym (same_truth c.args.width (expression_of (out-Arm c.arm-item.result).test) (seen c.count_step.new.self).store))))))

pub branch-returns-in_err-block-clause-told : goal.branch-returns-in_err-block-clause-told
unfolding Chooses
branch-returns-in_err-block-clause-told g t c = λ arms bytes.
    let h = has_arms_on c.args.line (λ limit. nothing) c.as_slice-arm-items.result.now c.loop-arm.arm-index c.arm-item.result (omega (arith, c.loop-arm-test.true)) c.arm-item.is c.args.input.now (seen c.loop-arm.self) (seen c.count_step.new.self) (c.loop-arm.invariant.1 arms) in
    let k = c.loop-arm.invariant.3 bytes in
    let l = c.in_err-block.ensures.told h.0 k.after in
    both k l
    (rw (residual c.from_residual-in_err-block.ensures.1)
    (λ other. k.does other (Some l.after) (seen c.block.new.self) (Err c.in_err-block.field-0.0)
    (arm_true c.args.line other c.as_slice-arm-items.result.now c.loop-arm.arm-index c.arm-item.result (omega (arith, c.loop-arm-test.true)) c.arm-item.is c.args.input.now (seen c.loop-arm.self) (seen c.count_step.new.self) (fortran77 c.args.width) (seen c.block.new.self) (Some k.after) (Some l.after) (Err c.in_err-block.field-0.0) c.in_ok-holds.holds c.in_ok-count_step.ensures.counted (sym c.in_ok-holds.was ∙ c.at.ensures ∙ ap (located c.args.line) (c.truth.ensures ∙ sym (same_truth c.args.width (expression_of (out-Arm c.arm-item.result).test) (seen c.count_step.new.self).store))) c.if-holds.true l.does)))

pub branch-returns-then-holds-clause-told : goal.branch-returns-then-holds-clause-told
unfolding Chooses
branch-returns-then-holds-clause-told g t c = λ arms bytes.
    let h = has_arms_on c.args.line (λ limit. nothing) c.as_slice-arm-items.result.now c.loop-arm.arm-index c.arm-item.result (omega (arith, c.loop-arm-test.true)) c.arm-item.is c.args.input.now (seen c.loop-arm.self) (seen c.count_step.new.self) (c.loop-arm.invariant.1 arms) in
    let k = c.loop-arm.invariant.3 bytes in
    let l = c.in_ok-block.ensures.told h.0 k.after in
    both k l
    (λ other. k.does other (Some l.after) (seen c.block.new.self) (Ok tt)
    (arm_true c.args.line other c.as_slice-arm-items.result.now c.loop-arm.arm-index c.arm-item.result (omega (arith, c.loop-arm-test.true)) c.arm-item.is c.args.input.now (seen c.loop-arm.self) (seen c.count_step.new.self) (fortran77 c.args.width) (seen c.block.new.self) (Some k.after) (Some l.after) (Ok tt) c.in_ok-holds.holds c.in_ok-count_step.ensures.counted (sym c.in_ok-holds.was ∙ c.at.ensures ∙ ap (located c.args.line) (c.truth.ensures ∙ sym (same_truth c.args.width (expression_of (out-Arm c.arm-item.result).test) (seen c.count_step.new.self).store))) c.if-holds.true l.does))

pub branch-returns-clause-told : goal.branch-returns-clause-told
unfolding Chooses
branch-returns-clause-told g t c = λ arms bytes.
    let k = c.loop-arm.invariant.3 bytes in
    kept k
    (λ other end after r h. k.does other after end r
    (arms_done (fortran77 c.args.width) c.args.line other c.as_slice-arm-items.result.now c.loop-arm.arm-index c.args.input.now (seen c.loop-arm.self) end (Some k.after) after r (omega (arith, c.loop-arm-test.false)) h))

pub block-returns-in_err-jump-clause-told : goal.block-returns-in_err-jump-clause-told
block-returns-in_err-jump-clause-told g t c = λ arms bytes.
    let k = c.loop-stmt.invariant.0 arms in
    let a = has_arms_here c.as_slice-stmt-items.result.now c.loop-stmt.stmt-index c.stmt-item.result (omega (arith, c.loop-stmt-test.true)) c.stmt-item.is c.args.input.now k.0 in
    let q = c.loop-stmt.invariant.2 arms bytes in
    let l = c.statement.ensures.told a.0 q.after in
    both q l
    (rw (residual c.from_residual.ensures.1)
    (q.does (Some l.after) (seen c.statement.new.self) (Err c.in_err-jump.field-0.0)
    (subst (λ j. RunsOn (way_at j) (left_of_block (fortran77 c.args.width) (drop c.loop-stmt.stmt-index c.as_slice-stmt-items.result.now)) c.args.input.now (seen c.loop-stmt.self) (Some q.after) (seen c.statement.new.self) (Some l.after) (Err c.in_err-jump.field-0.0)) (sym (none_left c.loop-stmt.jump c.in_default.not-Some)) (block_left c.as_slice-stmt-items.result.now c.loop-stmt.stmt-index c.stmt-item.result (omega (arith, c.loop-stmt-test.true)) c.stmt-item.is c.args.input.now (fortran77 c.args.width) (seen c.loop-stmt.self) (seen c.statement.new.self) (Some q.after) (Some l.after) c.statement.result c.in_err-jump.field-0.0 (sym c.in_err-jump.was ∙ c.landed.ensures) l.does))))

pub block-returns-in-None-clause-told : goal.block-returns-in-None-clause-told
block-returns-in-None-clause-told g t c = λ arms bytes.
    let q = c.loop-stmt.invariant.2 arms bytes in
    kept q
    (q.does (Some q.after) (seen c.loop-stmt.self) (Ok tt)
    (subst (λ j. RunsOn (way_at j) (left_of_block (fortran77 c.args.width) (drop c.loop-stmt.stmt-index c.as_slice-stmt-items.result.now)) c.args.input.now (seen c.loop-stmt.self) (Some q.after) (seen c.loop-stmt.self) (Some q.after) (Ok tt)) (sym c.in-None.is) (block_done (fortran77 c.args.width) c.as_slice-stmt-items.result.now c.loop-stmt.stmt-index (omega (arith, c.loop-stmt-test.false)) c.args.input.now (seen c.loop-stmt.self) (Some q.after))))

pub block-returns-in-Some-jump-clause-told : goal.block-returns-in-Some-jump-clause-told
block-returns-in-Some-jump-clause-told g t c = λ arms bytes.
    let q = c.loop-stmt.invariant.2 arms bytes in
    kept q
    (q.does (Some q.after) (seen c.loop-stmt.self) (Err (Halted (Jump c.in-Some-jump.label)))
    (subst (λ j. RunsOn (way_at j) (left_of_block (fortran77 c.args.width) (drop c.loop-stmt.stmt-index c.as_slice-stmt-items.result.now)) c.args.input.now (seen c.loop-stmt.self) (Some q.after) (seen c.loop-stmt.self) (Some q.after) (Err (Halted (Jump c.in-Some-jump.label)))) (sym c.in-Some-jump.is) (block_jumped (fortran77 c.args.width) c.as_slice-stmt-items.result.now c.loop-stmt.stmt-index (omega (arith, c.loop-stmt-test.false)) c.args.input.now (seen c.loop-stmt.self) (Some q.after) c.in-Some-jump.label)))

pub branch-loop-arm-init : goal.branch-loop-arm-init
branch-loop-arm-init g t c = (
  λ other now last r h.
      subst (λ xs. Runs (left_of_arms (fortran77 c.args.width) c.args.line other xs) c.args.input.now (seen c.args.self.now) (g.K.Sink.taken c.args.out.now) last now r) c.as_slice-arm-items.ensures h,
  λ arms. subst (λ xs. ArmsHaveArms (plain_arms xs)) (sym c.as_slice-arm-items.ensures) arms,
  refl,
  λ bytes. still _ bytes
      (λ other now last r h. subst (λ xs. Runs (left_of_arms (fortran77 c.args.width) c.args.line other xs) c.args.input.now (seen c.args.self.now) (Some bytes) last now r) c.as_slice-arm-items.ensures h),
)
