use Rattle.std.proofs.Common.{◌≡◌, refl, sym, ap, ◌∙◌, subst, ◌+◌, ◌-◌, [], map, Ok, Err, Some, None, arith, rules, drop}
use Rattle.tree.specs.View.{statement_of, block_of, expression_of, declaration_of}
use Rattle.tree.proofs.Equations.{statement_of-assign, statement_of-if, statement_of-do, statement_of-label, statement_of-go, statement_of-stop, statement_of-read, statement_of-print}
use Rattle.tree.proofs.Equations.{statement_of-masked, statement_of-allocate, statement_of-deallocate}
use Rattle.meaning.specs.Blocks.{within_loop}
use Rattle.meaning.specs.Dialect.{fortran90}
use Rattle.meaning.specs.Profile90.{IsStatement, AreArms}
use Rattle.meaning.specs.Run.{loops, repeated, turn, does, does_all, increases}
use Rattle.machine.specs.declared.progress.Left.TheVariants.{Halted}
use Rattle.machine.specs.declared.progress.Halt.TheVariants.{Jump}
use Rattle.machine.specs.Acts.{Runs}
use Rattle.machine.specs.Moments.{located}
use Rattle.machine.specs.Statements.{plain_arms}
use Rattle.machine.specs.Jumps.{way_at}
use Rattle.machine.proofs.Residuals.{residual, settled}
use Rattle.machine.proofs.TurnLaws.{turn_cut, turn_left, turn_stuck, turn_done, at_turn, no_turn}
use Rattle.machine.proofs.BlockLaws.{Extends-does_all, RunsOn, left_of_block, left_of_arms, block_begins, block_more, block_left, block_passed, block_done, block_jumped}
use Rattle.machine.proofs.BlockLaws.{arm_cut, arm_true, arm_false, arms_done, at_statement, none_left, label_runs}
use Rattle.machine.proofs.Telling.{still, kept, both}
use Rattle.array_expressions.specs.assignments.Loops.{BeginsLoop}
use Rattle.array_expressions.specs.assignments.Moments.{seen, slots_of}
use Rattle.array_expressions.specs.transfers.Unfinished.{ended_by, left_at, unfinished_by}
use Rattle.array_expressions.proofs.transfers.Lacking.{begins_stuck, left_so, no_write}
use Rattle.run90.specs.Statements.{unfinished, Chooses}
use Rattle.run90.proofs.ProgramLaws.{statement_has_arms}
use Rattle.run90.proofs.Keeping.{suits_after, suits_step, keeps_statement, keeps_block, keeps_increases, loop_suits}
use Rattle.run90.proofs.Going.{finished, landed_on, landed_off, block_here, statement_here, arm_here, arm_stuck, chosen_suits, never_left, block_unwritten, block_unfailed, went_on}
use Rattle.streams.specs.Causes.{Rose}
use Rattle.run90.proofs.Allocating.{array_kind}
use Rattle.run90.proofs.statements.+statements.Goals as goal

pub statement-returns-in-Assign-clause-run : goal.statement-returns-in-Assign-clause-run
statement-returns-in-Assign-clause-run g t c = λ p w is suits.
    (rw c.left.ensures
    (at_statement (fortran90 c.args.width) c.args.stmt.now _ c.args.input.now (seen c.args.moment.now) (seen c.assignment.new.self) (g.K.Sink.taken c.args.out.now) (g.K.Sink.taken c.args.out.now) (ended_by (unfinished c.assignment.result)) (ap statement_of c.in-Assign.is ∙ statement_of-assign _ _ _ _)
    (finished _ c.args.input.now (seen c.args.moment.now) (seen c.assignment.new.self) (g.K.Sink.taken c.args.out.now) (g.K.Sink.taken c.args.out.now) c.assignment.result (c.assignment.ensures None c.args.input.now (g.K.Sink.taken c.args.out.now)))))

pub statement-returns-in-Go-clause-run : goal.statement-returns-in-Go-clause-run
statement-returns-in-Go-clause-run g t c = λ p w is suits.
    (rw c.left-in-Go.ensures
    (at_statement (fortran90 c.args.width) c.args.stmt.now _ c.args.input.now (seen c.args.moment.now) (seen c.go.new.moment) (g.K.Sink.taken c.args.out.now) (g.K.Sink.taken c.args.out.now) (ended_by (unfinished c.go.result)) (ap statement_of c.in-Go.is ∙ statement_of-go _ _)
    (finished _ c.args.input.now (seen c.args.moment.now) (seen c.go.new.moment) (g.K.Sink.taken c.args.out.now) (g.K.Sink.taken c.args.out.now) c.go.result (c.go.ensures c.args.width c.args.input.now (g.K.Sink.taken c.args.out.now)))))

pub statement-returns-in-Stop-clause-run : goal.statement-returns-in-Stop-clause-run
statement-returns-in-Stop-clause-run g t c = λ p w is suits.
    (rw c.left-in-Stop.ensures
    (at_statement (fortran90 c.args.width) c.args.stmt.now _ c.args.input.now (seen c.args.moment.now) (seen c.stop.new.moment) (g.K.Sink.taken c.args.out.now) (g.K.Sink.taken c.args.out.now) (ended_by (unfinished c.stop.result)) (ap statement_of c.in-Stop.is ∙ statement_of-stop _)
    (finished _ c.args.input.now (seen c.args.moment.now) (seen c.stop.new.moment) (g.K.Sink.taken c.args.out.now) (g.K.Sink.taken c.args.out.now) c.stop.result (c.stop.ensures c.args.width c.args.input.now (g.K.Sink.taken c.args.out.now)))))

pub statement-returns-in-Read-clause-run : goal.statement-returns-in-Read-clause-run
statement-returns-in-Read-clause-run g t c = λ p w is suits.
    (rw c.left-in-Read.ensures
    (at_statement (fortran90 c.args.width) c.args.stmt.now _ c.args.input.now (seen c.args.moment.now) (seen c.read_statement.new.moment) (g.K.Sink.taken c.args.out.now) (g.K.Sink.taken c.args.out.now) (ended_by (unfinished c.read_statement.result)) (ap statement_of c.in-Read.is ∙ statement_of-read _ _)
    (finished _ c.args.input.now (seen c.args.moment.now) (seen c.read_statement.new.moment) (g.K.Sink.taken c.args.out.now) (g.K.Sink.taken c.args.out.now) c.read_statement.result (c.read_statement.ensures (g.K.Sink.taken c.args.out.now)))))

pub statement-returns-in-Print-clause-run : goal.statement-returns-in-Print-clause-run
statement-returns-in-Print-clause-run g t c = λ p w is suits.
    at_statement (fortran90 c.args.width) c.args.stmt.now _ c.args.input.now (seen c.args.moment.now) (seen c.print_statement.new.moment) (g.K.Sink.taken c.args.out.now) (g.K.Sink.taken c.print_statement.new.out) (ended_by c.print_statement.result) (ap statement_of c.in-Print.is ∙ statement_of-print _ _) (c.print_statement.ensures.run c.args.input.now)

pub statement-returns-in-Label-clause-run : goal.statement-returns-in-Label-clause-run
statement-returns-in-Label-clause-run g t c = λ p w is suits.
    at_statement (fortran90 c.args.width) c.args.stmt.now _ c.args.input.now (seen c.args.moment.now) (seen c.args.moment.now) (g.K.Sink.taken c.args.out.now) (g.K.Sink.taken c.args.out.now) (Ok tt) (ap statement_of c.in-Label.is ∙ statement_of-label _) (label_runs (fortran90 c.args.width) _ c.args.input.now (seen c.args.moment.now) (g.K.Sink.taken c.args.out.now))

pub statement-returns-in_err-done-in-If-clause-run : goal.statement-returns-in_err-done-in-If-clause-run
unfolding Chooses
statement-returns-in_err-done-in-If-clause-run g t c = λ p w is suits.
    rw (residual c.from_residual.ensures.1)
    (at_statement (fortran90 c.args.width) c.args.stmt.now _ c.args.input.now (seen c.args.moment.now) (seen c.choose.new.moment) (g.K.Sink.taken c.args.out.now) (g.K.Sink.taken c.choose.new.out) (Err (left_at c.in_err-done-in-If.field-0.0)) (ap statement_of c.in-If.is ∙ statement_of-if c.in-If.line c.in-If.arms c.in-If.other) (c.in_err-done-in-If.ensures.run p w (subst (λ c. IsStatement p.declarations c w) (ap statement_of c.in-If.is ∙ statement_of-if c.in-If.line c.in-If.arms c.in-If.other) is).2 suits (λ limit. does_all (fortran90 c.args.width) limit (block_of c.in-If.other)) (Extends-does_all (fortran90 c.args.width) (block_of c.in-If.other))))

pub statement-returns-then-done-clause-run : goal.statement-returns-then-done-clause-run
unfolding Chooses
statement-returns-then-done-clause-run g t c = λ p w is suits.
    at_statement (fortran90 c.args.width) c.args.stmt.now _ c.args.input.now (seen c.args.moment.now) (seen c.choose.new.moment) (g.K.Sink.taken c.args.out.now) (g.K.Sink.taken c.choose.new.out) (Ok tt) (ap statement_of c.in-If.is ∙ statement_of-if c.in-If.line c.in-If.arms c.in-If.other)
    (subst (λ b. Chooses c.args.width c.in-If.line (plain_arms c.in-If.arms) c.args.input.now (seen c.args.moment.now) (g.K.Sink.taken c.args.out.now) (seen c.choose.new.moment) (g.K.Sink.taken c.choose.new.out) (Ok b)) c.if-done.true (c.in_ok-done-in-If.ensures.run p w (subst (λ c. IsStatement p.declarations c w) (ap statement_of c.in-If.is ∙ statement_of-if c.in-If.line c.in-If.arms c.in-If.other) is).2 suits) (λ limit. does_all (fortran90 c.args.width) limit (block_of c.in-If.other)))

pub statement-returns-else-done-clause-run : goal.statement-returns-else-done-clause-run
unfolding Chooses
statement-returns-else-done-clause-run g t c = λ p w is suits.
    at_statement (fortran90 c.args.width) c.args.stmt.now _ c.args.input.now (seen c.args.moment.now) (seen c.block.new.moment) (g.K.Sink.taken c.args.out.now) (g.K.Sink.taken c.block.new.out) (ended_by c.block.result) (ap statement_of c.in-If.is ∙ statement_of-if c.in-If.line c.in-If.arms c.in-If.other)
    (subst (λ b. Chooses c.args.width c.in-If.line (plain_arms c.in-If.arms) c.args.input.now (seen c.args.moment.now) (g.K.Sink.taken c.args.out.now) (seen c.choose.new.moment) (g.K.Sink.taken c.choose.new.out) (Ok b)) c.if-done.false (c.in_ok-done-in-If.ensures.run p w (subst (λ c. IsStatement p.declarations c w) (ap statement_of c.in-If.is ∙ statement_of-if c.in-If.line c.in-If.arms c.in-If.other) is).2 suits) (λ limit. does_all (fortran90 c.args.width) limit (block_of c.in-If.other)) (seen c.block.new.moment) (g.K.Sink.taken c.block.new.out) (ended_by c.block.result)
    (c.block.ensures.run p w (subst (λ c. IsStatement p.declarations c w) (ap statement_of c.in-If.is ∙ statement_of-if c.in-If.line c.in-If.arms c.in-If.other) is).3 (chosen_suits c.args.width p w c.in-If.line c.in-If.arms (block_of c.in-If.other) (subst (λ c. IsStatement p.declarations c w) (ap statement_of c.in-If.is ∙ statement_of-if c.in-If.line c.in-If.arms c.in-If.other) is) c.args.input.now (seen c.args.moment.now) (g.K.Sink.taken c.args.out.now) (seen c.choose.new.moment) (g.K.Sink.taken c.choose.new.out) (subst (λ b. Chooses c.args.width c.in-If.line (plain_arms c.in-If.arms) c.args.input.now (seen c.args.moment.now) (g.K.Sink.taken c.args.out.now) (seen c.choose.new.moment) (g.K.Sink.taken c.choose.new.out) (Ok b)) c.if-done.false (c.in_ok-done-in-If.ensures.run p w (subst (λ c. IsStatement p.declarations c w) (ap statement_of c.in-If.is ∙ statement_of-if c.in-If.line c.in-If.arms c.in-If.other) is).2 suits)) suits)))

pub statement-returns-in_err-turns-in-Do-clause-run : goal.statement-returns-in_err-turns-in-Do-clause-run
statement-returns-in_err-turns-in-Do-clause-run g t c = λ p w is suits.
    (rw (residual c.from_residual-in_err-turns-in-Do.ensures.1)
    (at_statement (fortran90 c.args.width) c.args.stmt.now _ c.args.input.now (seen c.args.moment.now) (seen c.begin_loop.new.self) (g.K.Sink.taken c.args.out.now) (g.K.Sink.taken c.args.out.now) (Err (left_at (unfinished_by c.in_err-turns-in-Do.field-0.0))) (ap statement_of c.in-Do.is ∙ statement_of-do c.in-Do.line c.in-Do.var c.in-Do.first c.in-Do.last c.in-Do.step c.in-Do.body)
    (left_so (λ limit. loops (fortran90 c.args.width) limit c.in-Do.line c.in-Do.var (expression_of c.in-Do.first) (expression_of c.in-Do.last) (expression_of c.in-Do.step) (does_all (fortran90 c.args.width) limit (block_of c.in-Do.body))) c.args.input.now (seen c.args.moment.now) (seen c.begin_loop.new.self) (g.K.Sink.taken c.args.out.now) (g.K.Sink.taken c.args.out.now) c.in_err-turns-in-Do.field-0.0
    (begins_stuck c.args.width c.in-Do.line c.in-Do.var (expression_of c.in-Do.first) (expression_of c.in-Do.last) (expression_of c.in-Do.step) (seen c.args.moment.now) (seen c.begin_loop.new.self) c.in_err-turns-in-Do.field-0.0 c.in_err-turns-in-Do.ensures (λ limit. does_all (fortran90 c.args.width) limit (block_of c.in-Do.body)) c.args.input.now (g.K.Sink.taken c.args.out.now) (Extends-does_all (fortran90 c.args.width) (block_of c.in-Do.body))))))

pub statement-loop-init : goal.statement-loop-init
unfolding BeginsLoop
statement-loop-init g t c = (
  λ p w is suits. (
    loop_suits c.args.width p w c.in-Do.line c.in-Do.var (expression_of c.in-Do.first) (expression_of c.in-Do.last) (expression_of c.in-Do.step) (block_of c.in-Do.body) (subst (λ c. IsStatement p.declarations c w) (ap statement_of c.in-Do.is ∙ statement_of-do c.in-Do.line c.in-Do.var c.in-Do.first c.in-Do.last c.in-Do.step c.in-Do.body) is) (seen c.args.moment.now) (seen c.begin_loop.new.self) c.in_ok-turns-in-Do.turns c.in_ok-turns-in-Do.ensures suits,
    λ now last r h.
        at_statement (fortran90 c.args.width) c.args.stmt.now _ c.args.input.now (seen c.args.moment.now) last (g.K.Sink.taken c.args.out.now) now r (ap statement_of c.in-Do.is ∙ statement_of-do c.in-Do.line c.in-Do.var c.in-Do.first c.in-Do.last c.in-Do.step c.in-Do.body)
        (c.in_ok-turns-in-Do.ensures (λ limit. does_all (fortran90 c.args.width) limit (block_of c.in-Do.body)) c.args.input.now (g.K.Sink.taken c.args.out.now) now last r
        (subst (λ n. Runs (λ limit. repeated n (turn (fortran90 c.args.width) limit c.in-Do.line c.in-Do.var c.in_ok-turns-in-Do.turns.step (does_all (fortran90 c.args.width) limit (block_of c.in-Do.body)))) c.args.input.now (seen c.begin_loop.new.self) (g.K.Sink.taken c.args.out.now) last now r) (let e : c.in_ok-turns-in-Do.turns.count - 0 ≡ c.in_ok-turns-in-Do.turns.count = omega arith in e) h)),
  ),
  refl,
  λ p w is suits bytes. still _ bytes
      (λ now last r h.
      at_statement (fortran90 c.args.width) c.args.stmt.now _ c.args.input.now (seen c.args.moment.now) last (Some bytes) now r (ap statement_of c.in-Do.is ∙ statement_of-do c.in-Do.line c.in-Do.var c.in-Do.first c.in-Do.last c.in-Do.step c.in-Do.body)
      (c.in_ok-turns-in-Do.ensures (λ limit. does_all (fortran90 c.args.width) limit (block_of c.in-Do.body)) c.args.input.now (Some bytes) now last r
      (subst (λ n. Runs (λ limit. repeated n (turn (fortran90 c.args.width) limit c.in-Do.line c.in-Do.var c.in_ok-turns-in-Do.turns.step (does_all (fortran90 c.args.width) limit (block_of c.in-Do.body)))) c.args.input.now (seen c.begin_loop.new.self) (Some bytes) last now r) (let e : c.in_ok-turns-in-Do.turns.count - 0 ≡ c.in_ok-turns-in-Do.turns.count = omega arith in e) h))),
)

pub statement-returns-in_err-count_step-in-Do-clause-run : goal.statement-returns-in_err-count_step-in-Do-clause-run
statement-returns-in_err-count_step-in-Do-clause-run g t c = λ p w is suits.
    rw (residual c.from_residual-in_err-count_step-in-Do.ensures.1)
    ((c.loop.invariant.0 p w is suits).1 (g.K.Sink.taken c.loop.out) (seen c.count_step.new.self) (Err (Halted c.in_err-count_step-in-Do.field-0.0))
    (at_turn (fortran90 c.args.width) c.in-Do.line c.in-Do.var c.in_ok-turns-in-Do.turns.step (λ limit. does_all (fortran90 c.args.width) limit (block_of c.in-Do.body)) c.args.input.now (c.in_ok-turns-in-Do.turns.count - c.loop.counter) (c.in_ok-turns-in-Do.turns.count - (c.loop.counter + 1)) (seen c.loop.moment) (seen c.count_step.new.self) (g.K.Sink.taken c.loop.out) (g.K.Sink.taken c.loop.out) (Err (Halted c.in_err-count_step-in-Do.field-0.0)) (omega (arith, c.loop-test.true))
    (turn_cut (fortran90 c.args.width) c.in-Do.line c.in-Do.var c.in_ok-turns-in-Do.turns.step (λ limit. does_all (fortran90 c.args.width) limit (block_of c.in-Do.body)) c.args.input.now (c.in_ok-turns-in-Do.turns.count - (c.loop.counter + 1)) (seen c.loop.moment) (seen c.count_step.new.self) (g.K.Sink.taken c.loop.out) c.in_err-count_step-in-Do.field-0.0 c.in_err-count_step-in-Do.ensures.counted)))

pub statement-returns-in_err-block-in-Do-clause-run : goal.statement-returns-in_err-block-in-Do-clause-run
statement-returns-in_err-block-in-Do-clause-run g t c = λ p w is suits.
    rw (residual c.from_residual-in_err-block-in-Do.ensures.1)
    ((c.loop.invariant.0 p w is suits).1 (g.K.Sink.taken c.block-in-loop.new.out) (seen c.block-in-loop.new.moment) (Err (left_at c.in_err-block-in-Do.field-0.0))
    (at_turn (fortran90 c.args.width) c.in-Do.line c.in-Do.var c.in_ok-turns-in-Do.turns.step (λ limit. does_all (fortran90 c.args.width) limit (block_of c.in-Do.body)) c.args.input.now (c.in_ok-turns-in-Do.turns.count - c.loop.counter) (c.in_ok-turns-in-Do.turns.count - (c.loop.counter + 1)) (seen c.loop.moment) (seen c.block-in-loop.new.moment) (g.K.Sink.taken c.loop.out) (g.K.Sink.taken c.block-in-loop.new.out) (Err (left_at c.in_err-block-in-Do.field-0.0)) (omega (arith, c.loop-test.true))
    (turn_left (fortran90 c.args.width) c.in-Do.line c.in-Do.var c.in_ok-turns-in-Do.turns.step (λ limit. does_all (fortran90 c.args.width) limit (block_of c.in-Do.body)) c.args.input.now (c.in_ok-turns-in-Do.turns.count - (c.loop.counter + 1)) (seen c.loop.moment) (seen c.count_step.new.self) (seen c.block-in-loop.new.moment) (g.K.Sink.taken c.loop.out) (g.K.Sink.taken c.block-in-loop.new.out) (left_at c.in_err-block-in-Do.field-0.0) (Extends-does_all (fortran90 c.args.width) (block_of c.in-Do.body)) c.in_ok-count_step-in-Do.ensures.counted (c.in_err-block-in-Do.ensures.run p (within_loop c.in-Do.var w) (subst (λ c. IsStatement p.declarations c w) (ap statement_of c.in-Do.is ∙ statement_of-do c.in-Do.line c.in-Do.var c.in-Do.first c.in-Do.last c.in-Do.step c.in-Do.body) is).5 (suits_step c.args.width p (seen c.loop.moment) (seen c.count_step.new.self) c.in_ok-count_step-in-Do.ensures.counted (c.loop.invariant.0 p w is suits).0)))))

pub statement-returns-in_err-increase-in-Do-clause-run : goal.statement-returns-in_err-increase-in-Do-clause-run
statement-returns-in_err-increase-in-Do-clause-run g t c = λ p w is suits.
    rw (residual c.from_residual-in_err-increase-in-Do.ensures.1)
    ((c.loop.invariant.0 p w is suits).1 (g.K.Sink.taken c.block-in-loop.new.out) (seen c.increase.new.self) (Err (Halted c.in_err-increase-in-Do.field-0.0))
    (at_turn (fortran90 c.args.width) c.in-Do.line c.in-Do.var c.in_ok-turns-in-Do.turns.step (λ limit. does_all (fortran90 c.args.width) limit (block_of c.in-Do.body)) c.args.input.now (c.in_ok-turns-in-Do.turns.count - c.loop.counter) (c.in_ok-turns-in-Do.turns.count - (c.loop.counter + 1)) (seen c.loop.moment) (seen c.increase.new.self) (g.K.Sink.taken c.loop.out) (g.K.Sink.taken c.block-in-loop.new.out) (Err (Halted c.in_err-increase-in-Do.field-0.0)) (omega (arith, c.loop-test.true))
    (turn_stuck (fortran90 c.args.width) c.in-Do.line c.in-Do.var c.in_ok-turns-in-Do.turns.step (λ limit. does_all (fortran90 c.args.width) limit (block_of c.in-Do.body)) c.args.input.now (c.in_ok-turns-in-Do.turns.count - (c.loop.counter + 1)) (seen c.loop.moment) (seen c.count_step.new.self) (seen c.block-in-loop.new.moment) (seen c.increase.new.self) (g.K.Sink.taken c.loop.out) (g.K.Sink.taken c.block-in-loop.new.out) c.in_err-increase-in-Do.field-0.0 (Extends-does_all (fortran90 c.args.width) (block_of c.in-Do.body)) c.in_ok-count_step-in-Do.ensures.counted (c.in_ok-block-in-Do.ensures.run p (within_loop c.in-Do.var w) (subst (λ c. IsStatement p.declarations c w) (ap statement_of c.in-Do.is ∙ statement_of-do c.in-Do.line c.in-Do.var c.in-Do.first c.in-Do.last c.in-Do.step c.in-Do.body) is).5 (suits_step c.args.width p (seen c.loop.moment) (seen c.count_step.new.self) c.in_ok-count_step-in-Do.ensures.counted (c.loop.invariant.0 p w is suits).0))
    (subst (λ d. Runs (λ limit. increases (fortran90 c.args.width) limit c.in-Do.line c.in-Do.var d) c.args.input.now (seen c.block-in-loop.new.moment) (g.K.Sink.taken c.block-in-loop.new.out) (seen c.increase.new.self) (g.K.Sink.taken c.block-in-loop.new.out) (Err (Halted c.in_err-increase-in-Do.field-0.0))) (settled c.in_ok-turns-in-Do.turns.step (search rules)) (c.in_err-increase-in-Do.ensures c.args.input.now (g.K.Sink.taken c.block-in-loop.new.out))))))

pub statement-loop-preserved : goal.statement-loop-preserved
statement-loop-preserved g t c = (
  λ p w is suits. (
    (suits_after c.args.width p (λ limit. increases (fortran90 c.args.width) limit c.in-Do.line c.in-Do.var c.in_ok-turns-in-Do.turns.step) (keeps_increases c.args.width p c.in-Do.line c.in-Do.var c.in_ok-turns-in-Do.turns.step (subst (λ c. IsStatement p.declarations c w) (ap statement_of c.in-Do.is ∙ statement_of-do c.in-Do.line c.in-Do.var c.in-Do.first c.in-Do.last c.in-Do.step c.in-Do.body) is).1.integer) [] (seen c.block-in-loop.new.moment) (seen c.increase.new.self) None None (Ok tt) tt
        (subst (λ d. Runs (λ limit. increases (fortran90 c.args.width) limit c.in-Do.line c.in-Do.var d) [] (seen c.block-in-loop.new.moment) None (seen c.increase.new.self) None (Ok tt)) (settled c.in_ok-turns-in-Do.turns.step (search rules)) (c.in_ok-increase-in-Do.ensures [] None))
        (suits_after c.args.width p (λ limit. does_all (fortran90 c.args.width) limit (block_of c.in-Do.body)) (keeps_block c.args.width p (block_of c.in-Do.body) (within_loop c.in-Do.var w) (subst (λ c. IsStatement p.declarations c w) (ap statement_of c.in-Do.is ∙ statement_of-do c.in-Do.line c.in-Do.var c.in-Do.first c.in-Do.last c.in-Do.step c.in-Do.body) is).5) c.args.input.now (seen c.count_step.new.self) (seen c.block-in-loop.new.moment) (g.K.Sink.taken c.loop.out) (g.K.Sink.taken c.block-in-loop.new.out) (Ok tt) tt
        (c.in_ok-block-in-Do.ensures.run p (within_loop c.in-Do.var w) (subst (λ c. IsStatement p.declarations c w) (ap statement_of c.in-Do.is ∙ statement_of-do c.in-Do.line c.in-Do.var c.in-Do.first c.in-Do.last c.in-Do.step c.in-Do.body) is).5 (suits_step c.args.width p (seen c.loop.moment) (seen c.count_step.new.self) c.in_ok-count_step-in-Do.ensures.counted (c.loop.invariant.0 p w is suits).0))
        (suits_step c.args.width p (seen c.loop.moment) (seen c.count_step.new.self) c.in_ok-count_step-in-Do.ensures.counted (c.loop.invariant.0 p w is suits).0))),
    λ now last r h.
        (c.loop.invariant.0 p w is suits).1 now last r
        (at_turn (fortran90 c.args.width) c.in-Do.line c.in-Do.var c.in_ok-turns-in-Do.turns.step (λ limit. does_all (fortran90 c.args.width) limit (block_of c.in-Do.body)) c.args.input.now (c.in_ok-turns-in-Do.turns.count - c.loop.counter) (c.in_ok-turns-in-Do.turns.count - (c.loop.counter + 1)) (seen c.loop.moment) last (g.K.Sink.taken c.loop.out) now r (omega (arith, c.loop-test.true))
        (turn_done (fortran90 c.args.width) c.in-Do.line c.in-Do.var c.in_ok-turns-in-Do.turns.step (λ limit. does_all (fortran90 c.args.width) limit (block_of c.in-Do.body)) c.args.input.now (c.in_ok-turns-in-Do.turns.count - (c.loop.counter + 1)) (seen c.loop.moment) (seen c.count_step.new.self) (seen c.block-in-loop.new.moment) (seen c.increase.new.self) last (g.K.Sink.taken c.loop.out) (g.K.Sink.taken c.block-in-loop.new.out) now r c.in_ok-count_step-in-Do.ensures.counted (c.in_ok-block-in-Do.ensures.run p (within_loop c.in-Do.var w) (subst (λ c. IsStatement p.declarations c w) (ap statement_of c.in-Do.is ∙ statement_of-do c.in-Do.line c.in-Do.var c.in-Do.first c.in-Do.last c.in-Do.step c.in-Do.body) is).5 (suits_step c.args.width p (seen c.loop.moment) (seen c.count_step.new.self) c.in_ok-count_step-in-Do.ensures.counted (c.loop.invariant.0 p w is suits).0))
        (subst (λ d. Runs (λ limit. increases (fortran90 c.args.width) limit c.in-Do.line c.in-Do.var d) c.args.input.now (seen c.block-in-loop.new.moment) (g.K.Sink.taken c.block-in-loop.new.out) (seen c.increase.new.self) (g.K.Sink.taken c.block-in-loop.new.out) (Ok tt)) (settled c.in_ok-turns-in-Do.turns.step (search rules)) (c.in_ok-increase-in-Do.ensures c.args.input.now (g.K.Sink.taken c.block-in-loop.new.out))) h)),
  ),
  c.in_ok-block-in-Do.ensures.no_fault (λ e. cc) ∙ c.loop.invariant.1,
  λ p w is suits bytes.
      let k = c.loop.invariant.2 p w is suits bytes in
      let l = c.in_ok-block-in-Do.ensures.told p (within_loop c.in-Do.var w) (subst (λ c. IsStatement p.declarations c w) (ap statement_of c.in-Do.is ∙ statement_of-do c.in-Do.line c.in-Do.var c.in-Do.first c.in-Do.last c.in-Do.step c.in-Do.body) is).5 (suits_step c.args.width p (seen c.loop.moment) (seen c.count_step.new.self) c.in_ok-count_step-in-Do.ensures.counted (c.loop.invariant.0 p w is suits).0) k.after in
      both k l
      (λ now last r h.
      k.does now last r
      (at_turn (fortran90 c.args.width) c.in-Do.line c.in-Do.var c.in_ok-turns-in-Do.turns.step (λ limit. does_all (fortran90 c.args.width) limit (block_of c.in-Do.body)) c.args.input.now (c.in_ok-turns-in-Do.turns.count - c.loop.counter) (c.in_ok-turns-in-Do.turns.count - (c.loop.counter + 1)) (seen c.loop.moment) last (Some k.after) now r (omega (arith, c.loop-test.true))
      (turn_done (fortran90 c.args.width) c.in-Do.line c.in-Do.var c.in_ok-turns-in-Do.turns.step (λ limit. does_all (fortran90 c.args.width) limit (block_of c.in-Do.body)) c.args.input.now (c.in_ok-turns-in-Do.turns.count - (c.loop.counter + 1)) (seen c.loop.moment) (seen c.count_step.new.self) (seen c.block-in-loop.new.moment) (seen c.increase.new.self) last (Some k.after) (Some l.after) now r c.in_ok-count_step-in-Do.ensures.counted l.does
      (subst (λ d. Runs (λ limit. increases (fortran90 c.args.width) limit c.in-Do.line c.in-Do.var d) c.args.input.now (seen c.block-in-loop.new.moment) (Some l.after) (seen c.increase.new.self) (Some l.after) (Ok tt)) (settled c.in_ok-turns-in-Do.turns.step (search rules)) (c.in_ok-increase-in-Do.ensures c.args.input.now (Some l.after))) h))),
)

pub statement-returns-after-loop-clause-run : goal.statement-returns-after-loop-clause-run
statement-returns-after-loop-clause-run g t c = λ p w is suits.
    (c.loop.invariant.0 p w is suits).1 (g.K.Sink.taken c.loop.out) (seen c.loop.moment) (Ok tt) (no_turn (fortran90 c.args.width) c.in-Do.line c.in-Do.var c.in_ok-turns-in-Do.turns.step (λ limit. does_all (fortran90 c.args.width) limit (block_of c.in-Do.body)) c.args.input.now (c.in_ok-turns-in-Do.turns.count - c.loop.counter) (seen c.loop.moment) (g.K.Sink.taken c.loop.out) (omega (arith, c.loop-test.false)))

pub choose-returns-in_err-count_step-clause-run : goal.choose-returns-in_err-count_step-clause-run
unfolding Chooses
choose-returns-in_err-count_step-clause-run g t c = λ p w is suits.
    rw (residual c.from_residual.ensures.1)
    (λ other extends. c.loop-arm.invariant.0 other (g.K.Sink.taken c.loop-arm.out) (seen c.count_step.new.self) (Err (Halted c.in_err-count_step.field-0.0))
    (arm_cut c.args.line other c.as_slice-arm-items.result.now c.loop-arm.arm-index c.arm-item.result (omega (arith, c.loop-arm-test.true)) c.arm-item.is c.args.input.now (seen c.loop-arm.moment) (seen c.count_step.new.self) (fortran90 c.args.width) (g.K.Sink.taken c.loop-arm.out) c.in_err-count_step.field-0.0 c.in_err-count_step.ensures.counted))

pub choose-returns-in_err-holds-clause-run : goal.choose-returns-in_err-holds-clause-run
unfolding Chooses
choose-returns-in_err-holds-clause-run g t c = λ p w is suits.
    (rw (residual c.from_residual-in_err-holds.ensures.1)
    (λ other extends. c.loop-arm.invariant.0 other (g.K.Sink.taken c.loop-arm.out) (seen c.count_step.new.self) (Err (left_at (unfinished_by c.in_err-holds.field-0.0)))
    (arm_stuck c.args.width c.args.line other c.as_slice-arm-items.result.now c.loop-arm.arm-index c.arm-item.result (omega (arith, c.loop-arm-test.true)) c.arm-item.is c.args.input.now (seen c.loop-arm.moment) (seen c.count_step.new.self) (g.K.Sink.taken c.loop-arm.out) c.in_err-holds.field-0.0 extends c.in_ok-count_step.ensures.counted c.in_err-holds.ensures)))

pub choose-returns-in_err-block-clause-run : goal.choose-returns-in_err-block-clause-run
unfolding Chooses
choose-returns-in_err-block-clause-run g t c = λ p w is suits.
    let h = arm_here p.declarations w c.as_slice-arm-items.result.now c.loop-arm.arm-index c.arm-item.result (omega (arith, c.loop-arm-test.true)) c.arm-item.is (c.loop-arm.invariant.1 p w is suits).0 in
    rw (residual c.from_residual-in_err-block.ensures.1)
    (λ other extends. c.loop-arm.invariant.0 other (g.K.Sink.taken c.block.new.out) (seen c.block.new.moment) (Err (left_at c.in_err-block.field-0.0))
    (arm_true c.args.line other c.as_slice-arm-items.result.now c.loop-arm.arm-index c.arm-item.result (omega (arith, c.loop-arm-test.true)) c.arm-item.is c.args.input.now (seen c.loop-arm.moment) (seen c.count_step.new.self) (fortran90 c.args.width) (seen c.block.new.moment) (g.K.Sink.taken c.loop-arm.out) (g.K.Sink.taken c.block.new.out) (Err (left_at c.in_err-block.field-0.0)) c.in_ok-holds.holds c.in_ok-count_step.ensures.counted (sym (ap (located c.args.line) c.in_ok-holds.ensures)) c.if-holds.true (c.in_err-block.ensures.run p w h.0 (suits_step c.args.width p (seen c.loop-arm.moment) (seen c.count_step.new.self) c.in_ok-count_step.ensures.counted (c.loop-arm.invariant.1 p w is suits).1))))

pub choose-returns-then-holds-clause-run : goal.choose-returns-then-holds-clause-run
unfolding Chooses
choose-returns-then-holds-clause-run g t c = λ p w is suits.
    let h = arm_here p.declarations w c.as_slice-arm-items.result.now c.loop-arm.arm-index c.arm-item.result (omega (arith, c.loop-arm-test.true)) c.arm-item.is (c.loop-arm.invariant.1 p w is suits).0 in
    λ other. c.loop-arm.invariant.0 other (g.K.Sink.taken c.block.new.out) (seen c.block.new.moment) (Ok tt)
    (arm_true c.args.line other c.as_slice-arm-items.result.now c.loop-arm.arm-index c.arm-item.result (omega (arith, c.loop-arm-test.true)) c.arm-item.is c.args.input.now (seen c.loop-arm.moment) (seen c.count_step.new.self) (fortran90 c.args.width) (seen c.block.new.moment) (g.K.Sink.taken c.loop-arm.out) (g.K.Sink.taken c.block.new.out) (Ok tt) c.in_ok-holds.holds c.in_ok-count_step.ensures.counted (sym (ap (located c.args.line) c.in_ok-holds.ensures)) c.if-holds.true (c.in_ok-block.ensures.run p w h.0 (suits_step c.args.width p (seen c.loop-arm.moment) (seen c.count_step.new.self) c.in_ok-count_step.ensures.counted (c.loop-arm.invariant.1 p w is suits).1)))

pub choose-loop-arm-preserved : goal.choose-loop-arm-preserved
choose-loop-arm-preserved g t c = (
  λ other now last r h. c.loop-arm.invariant.0 other now last r (arm_false c.args.line other c.as_slice-arm-items.result.now c.loop-arm.arm-index c.arm-item.result (omega (arith, c.loop-arm-test.true)) c.arm-item.is c.args.input.now (seen c.loop-arm.moment) (seen c.count_step.new.self) (fortran90 c.args.width) last (g.K.Sink.taken c.loop-arm.out) now r c.in_ok-holds.holds c.in_ok-count_step.ensures.counted (sym (ap (located c.args.line) c.in_ok-holds.ensures)) c.if-holds.false h),
  λ p w is suits. ((arm_here p.declarations w c.as_slice-arm-items.result.now c.loop-arm.arm-index c.arm-item.result (omega (arith, c.loop-arm-test.true)) c.arm-item.is (c.loop-arm.invariant.1 p w is suits).0).1, (suits_step c.args.width p (seen c.loop-arm.moment) (seen c.count_step.new.self) c.in_ok-count_step.ensures.counted (c.loop-arm.invariant.1 p w is suits).1)),
  c.loop-arm.invariant.2,
  λ bytes.
      let k = c.loop-arm.invariant.3 bytes in
      kept k
      (λ other now last r h. k.does other now last r (arm_false c.args.line other c.as_slice-arm-items.result.now c.loop-arm.arm-index c.arm-item.result (omega (arith, c.loop-arm-test.true)) c.arm-item.is c.args.input.now (seen c.loop-arm.moment) (seen c.count_step.new.self) (fortran90 c.args.width) last (Some k.after) now r c.in_ok-holds.holds c.in_ok-count_step.ensures.counted (sym (ap (located c.args.line) c.in_ok-holds.ensures)) c.if-holds.false h)),
)

pub choose-returns-clause-run : goal.choose-returns-clause-run
unfolding Chooses
choose-returns-clause-run g t c = λ p w is suits.
    λ other end after r h. c.loop-arm.invariant.0 other after end r
    (arms_done (fortran90 c.args.width) c.args.line other c.as_slice-arm-items.result.now c.loop-arm.arm-index c.args.input.now (seen c.loop-arm.moment) end (g.K.Sink.taken c.loop-arm.out) after r (omega (arith, c.loop-arm-test.false)) h)

pub block-loop-stmt-init : goal.block-loop-stmt-init
block-loop-stmt-init g t c = (
  λ p w is suits. (
    block_here p.declarations w c.args.block.now c.as_slice-stmt-items.result.now c.as_slice-stmt-items.ensures is,
    suits,
    λ now last r h. block_begins c.args.block.now c.as_slice-stmt-items.result.now c.as_slice-stmt-items.ensures (fortran90 c.args.width) c.args.input.now (seen c.args.moment.now) last (g.K.Sink.taken c.args.out.now) now r h,
  ),
  refl,
  λ p w is suits bytes. still _ bytes (λ now last r h. block_begins c.args.block.now c.as_slice-stmt-items.result.now c.as_slice-stmt-items.ensures (fortran90 c.args.width) c.args.input.now (seen c.args.moment.now) last (Some bytes) now r h),
)

pub block-loop-stmt-preserved-in-Some : goal.block-loop-stmt-preserved-in-Some
block-loop-stmt-preserved-in-Some g t c = (
  λ p w is suits.
      let k = c.loop-stmt.invariant.0 p w is suits in
      let a = statement_here p.declarations w c.as_slice-stmt-items.result.now c.loop-stmt.stmt-index c.stmt-item.result (omega (arith, c.loop-stmt-test.true)) c.stmt-item.is k.0 in (
        a.1,
        k.1,
        λ now last r h. k.2 now last r
            (subst (λ j. RunsOn (way_at j) (left_of_block (fortran90 c.args.width) (drop c.loop-stmt.stmt-index c.as_slice-stmt-items.result.now)) c.args.input.now (seen c.loop-stmt.moment) (g.K.Sink.taken c.loop-stmt.out) last now r) (sym c.in-Some.is) (block_passed c.as_slice-stmt-items.result.now c.loop-stmt.stmt-index c.stmt-item.result (omega (arith, c.loop-stmt-test.true)) c.stmt-item.is c.args.input.now (fortran90 c.args.width) c.in-Some.label (seen c.loop-stmt.moment) last (g.K.Sink.taken c.loop-stmt.out) now r (statement_has_arms p.declarations (statement_of c.stmt-item.result) _ a.0) (subst (λ j. RunsOn (way_at j) (left_of_block (fortran90 c.args.width) (drop (c.loop-stmt.stmt-index + 1) c.as_slice-stmt-items.result.now)) c.args.input.now (seen c.loop-stmt.moment) (g.K.Sink.taken c.loop-stmt.out) last now r) c.passed-jump.ensures h))),
      ),
  c.loop-stmt.invariant.1,
  λ p w is suits bytes.
      let k = c.loop-stmt.invariant.0 p w is suits in
      let a = statement_here p.declarations w c.as_slice-stmt-items.result.now c.loop-stmt.stmt-index c.stmt-item.result (omega (arith, c.loop-stmt-test.true)) c.stmt-item.is k.0 in
      let q = c.loop-stmt.invariant.2 p w is suits bytes in
      kept q
      (λ now last r h. q.does now last r
      (subst (λ j. RunsOn (way_at j) (left_of_block (fortran90 c.args.width) (drop c.loop-stmt.stmt-index c.as_slice-stmt-items.result.now)) c.args.input.now (seen c.loop-stmt.moment) (Some q.after) last now r) (sym c.in-Some.is) (block_passed c.as_slice-stmt-items.result.now c.loop-stmt.stmt-index c.stmt-item.result (omega (arith, c.loop-stmt-test.true)) c.stmt-item.is c.args.input.now (fortran90 c.args.width) c.in-Some.label (seen c.loop-stmt.moment) last (Some q.after) now r (statement_has_arms p.declarations (statement_of c.stmt-item.result) _ a.0) (subst (λ j. RunsOn (way_at j) (left_of_block (fortran90 c.args.width) (drop (c.loop-stmt.stmt-index + 1) c.as_slice-stmt-items.result.now)) c.args.input.now (seen c.loop-stmt.moment) (Some q.after) last now r) c.passed-jump.ensures h)))),
)

pub block-returns-in_err-jump-clause-run : goal.block-returns-in_err-jump-clause-run
block-returns-in_err-jump-clause-run g t c = λ p w is suits.
    let k = c.loop-stmt.invariant.0 p w is suits in
    let a = statement_here p.declarations w c.as_slice-stmt-items.result.now c.loop-stmt.stmt-index c.stmt-item.result (omega (arith, c.loop-stmt-test.true)) c.stmt-item.is k.0 in
    rw (residual c.from_residual.ensures.1)
    (k.2 (g.K.Sink.taken c.statement.new.out) (seen c.statement.new.moment) (Err (left_at c.in_err-jump.field-0.0))
    (subst (λ j. RunsOn (way_at j) (left_of_block (fortran90 c.args.width) (drop c.loop-stmt.stmt-index c.as_slice-stmt-items.result.now)) c.args.input.now (seen c.loop-stmt.moment) (g.K.Sink.taken c.loop-stmt.out) (seen c.statement.new.moment) (g.K.Sink.taken c.statement.new.out) (Err (left_at c.in_err-jump.field-0.0))) (sym (none_left c.loop-stmt.jump c.in_default.not-Some)) (block_left c.as_slice-stmt-items.result.now c.loop-stmt.stmt-index c.stmt-item.result (omega (arith, c.loop-stmt-test.true)) c.stmt-item.is c.args.input.now (fortran90 c.args.width) (seen c.loop-stmt.moment) (seen c.statement.new.moment) (g.K.Sink.taken c.loop-stmt.out) (g.K.Sink.taken c.statement.new.out) (ended_by c.statement.result) (left_at c.in_err-jump.field-0.0) (landed_off c.statement.result c.in_err-jump.field-0.0 (sym c.in_err-jump.was ∙ c.landed.ensures)) (c.statement.ensures.run p _ a.0 k.1))))

pub block-loop-stmt-preserved : goal.block-loop-stmt-preserved
block-loop-stmt-preserved g t c = (
  λ p w is suits.
      let k = c.loop-stmt.invariant.0 p w is suits in
      let a = statement_here p.declarations w c.as_slice-stmt-items.result.now c.loop-stmt.stmt-index c.stmt-item.result (omega (arith, c.loop-stmt-test.true)) c.stmt-item.is k.0 in (
        a.1,
        (suits_after c.args.width p (λ limit. does (fortran90 c.args.width) limit (statement_of c.stmt-item.result)) (keeps_statement c.args.width p (statement_of c.stmt-item.result) _ a.0) c.args.input.now (seen c.loop-stmt.moment) (seen c.statement.new.moment) (g.K.Sink.taken c.loop-stmt.out) (g.K.Sink.taken c.statement.new.out) (ended_by c.statement.result) (landed_on c.statement.result c.in_ok-jump.jump (sym c.in_ok-jump.was ∙ c.landed.ensures)).1 (c.statement.ensures.run p _ a.0 k.1) k.1),
        λ now last r h. k.2 now last r
            (subst (λ j. RunsOn (way_at j) (left_of_block (fortran90 c.args.width) (drop c.loop-stmt.stmt-index c.as_slice-stmt-items.result.now)) c.args.input.now (seen c.loop-stmt.moment) (g.K.Sink.taken c.loop-stmt.out) last now r) (sym (none_left c.loop-stmt.jump c.in_default.not-Some)) (block_more c.as_slice-stmt-items.result.now c.loop-stmt.stmt-index c.stmt-item.result (omega (arith, c.loop-stmt-test.true)) c.stmt-item.is c.args.input.now (fortran90 c.args.width) (seen c.loop-stmt.moment) (seen c.statement.new.moment) last (g.K.Sink.taken c.loop-stmt.out) (g.K.Sink.taken c.statement.new.out) now (ended_by c.statement.result) r c.in_ok-jump.jump (landed_on c.statement.result c.in_ok-jump.jump (sym c.in_ok-jump.was ∙ c.landed.ensures)).0 (c.statement.ensures.run p _ a.0 k.1) h)),
      ),
  c.statement.ensures.no_fault (went_on c.statement.result _ (sym c.in_ok-jump.was ∙ c.landed.ensures)) ∙ c.loop-stmt.invariant.1,
  λ p w is suits bytes.
      let k = c.loop-stmt.invariant.0 p w is suits in
      let a = statement_here p.declarations w c.as_slice-stmt-items.result.now c.loop-stmt.stmt-index c.stmt-item.result (omega (arith, c.loop-stmt-test.true)) c.stmt-item.is k.0 in
      let q = c.loop-stmt.invariant.2 p w is suits bytes in
      let l = c.statement.ensures.told p _ a.0 k.1 q.after in
      both q l
      (λ now last r h. q.does now last r
      (subst (λ j. RunsOn (way_at j) (left_of_block (fortran90 c.args.width) (drop c.loop-stmt.stmt-index c.as_slice-stmt-items.result.now)) c.args.input.now (seen c.loop-stmt.moment) (Some q.after) last now r) (sym (none_left c.loop-stmt.jump c.in_default.not-Some)) (block_more c.as_slice-stmt-items.result.now c.loop-stmt.stmt-index c.stmt-item.result (omega (arith, c.loop-stmt-test.true)) c.stmt-item.is c.args.input.now (fortran90 c.args.width) (seen c.loop-stmt.moment) (seen c.statement.new.moment) last (Some q.after) (Some l.after) now (ended_by c.statement.result) r c.in_ok-jump.jump (landed_on c.statement.result c.in_ok-jump.jump (sym c.in_ok-jump.was ∙ c.landed.ensures)).0 l.does h))),
)

pub block-returns-in-None-clause-run : goal.block-returns-in-None-clause-run
block-returns-in-None-clause-run g t c = λ p w is suits.
    (c.loop-stmt.invariant.0 p w is suits).2 (g.K.Sink.taken c.loop-stmt.out) (seen c.loop-stmt.moment) (Ok tt)
    (subst (λ j. RunsOn (way_at j) (left_of_block (fortran90 c.args.width) (drop c.loop-stmt.stmt-index c.as_slice-stmt-items.result.now)) c.args.input.now (seen c.loop-stmt.moment) (g.K.Sink.taken c.loop-stmt.out) (seen c.loop-stmt.moment) (g.K.Sink.taken c.loop-stmt.out) (Ok tt)) (sym c.in-None.is) (block_done (fortran90 c.args.width) c.as_slice-stmt-items.result.now c.loop-stmt.stmt-index (omega (arith, c.loop-stmt-test.false)) c.args.input.now (seen c.loop-stmt.moment) (g.K.Sink.taken c.loop-stmt.out)))

pub block-returns-in-Some-jump-clause-run : goal.block-returns-in-Some-jump-clause-run
block-returns-in-Some-jump-clause-run g t c = λ p w is suits.
    (c.loop-stmt.invariant.0 p w is suits).2 (g.K.Sink.taken c.loop-stmt.out) (seen c.loop-stmt.moment) (Err (Halted (Jump c.in-Some-jump.label)))
    (subst (λ j. RunsOn (way_at j) (left_of_block (fortran90 c.args.width) (drop c.loop-stmt.stmt-index c.as_slice-stmt-items.result.now)) c.args.input.now (seen c.loop-stmt.moment) (g.K.Sink.taken c.loop-stmt.out) (seen c.loop-stmt.moment) (g.K.Sink.taken c.loop-stmt.out) (Err (Halted (Jump c.in-Some-jump.label)))) (sym c.in-Some-jump.is) (block_jumped (fortran90 c.args.width) c.as_slice-stmt-items.result.now c.loop-stmt.stmt-index (omega (arith, c.loop-stmt-test.false)) c.args.input.now (seen c.loop-stmt.moment) (g.K.Sink.taken c.loop-stmt.out) c.in-Some-jump.label))

pub statement-returns-in-Masked-clause-run : goal.statement-returns-in-Masked-clause-run
statement-returns-in-Masked-clause-run g t c = λ p w is suits.
    (rw c.left-in-Masked.ensures
    (at_statement (fortran90 c.args.width) c.args.stmt.now _ c.args.input.now (seen c.args.moment.now) (seen c.masked_assignment.new.self) (g.K.Sink.taken c.args.out.now) (g.K.Sink.taken c.args.out.now) (ended_by (unfinished c.masked_assignment.result)) (ap statement_of c.in-Masked.is ∙ statement_of-masked _ _ _ _ _)
    (finished _ c.args.input.now (seen c.args.moment.now) (seen c.masked_assignment.new.self) (g.K.Sink.taken c.args.out.now) (g.K.Sink.taken c.args.out.now) c.masked_assignment.result (c.masked_assignment.ensures None c.args.input.now (g.K.Sink.taken c.args.out.now)))))

pub statement-returns-in-Allocate-clause-run : goal.statement-returns-in-Allocate-clause-run
statement-returns-in-Allocate-clause-run g t c = λ p w is suits.
    (rw c.left-in-Allocate.ensures
    (at_statement (fortran90 c.args.width) c.args.stmt.now _ c.args.input.now (seen c.args.moment.now) (seen c.allocate.new.moment) (g.K.Sink.taken c.args.out.now) (g.K.Sink.taken c.args.out.now) (ended_by (unfinished c.allocate.result)) (ap statement_of c.in-Allocate.is ∙ statement_of-allocate _ _ _)
    (finished _ c.args.input.now (seen c.args.moment.now) (seen c.allocate.new.moment) (g.K.Sink.taken c.args.out.now) (g.K.Sink.taken c.args.out.now) c.allocate.result ((let k = array_kind c.args.width p (map declaration_of c.args.moment.now.decls) (slots_of c.args.moment.now) (seen c.args.moment.now) c.in-Allocate.name _ c.args.moment.now.kinds refl refl suits (subst (λ c. IsStatement p.declarations c w) (ap statement_of c.in-Allocate.is ∙ statement_of-allocate _ _ _) is).1 in c.allocate.ensures k.0 k.1 k.2 c.args.input.now (g.K.Sink.taken c.args.out.now))))))

pub statement-returns-in-Deallocate-clause-run : goal.statement-returns-in-Deallocate-clause-run
statement-returns-in-Deallocate-clause-run g t c = λ p w is suits.
    (rw c.left-in-Deallocate.ensures
    (at_statement (fortran90 c.args.width) c.args.stmt.now _ c.args.input.now (seen c.args.moment.now) (seen c.deallocate.new.moment) (g.K.Sink.taken c.args.out.now) (g.K.Sink.taken c.args.out.now) (ended_by (unfinished c.deallocate.result)) (ap statement_of c.in-Deallocate.is ∙ statement_of-deallocate _ _)
    (finished _ c.args.input.now (seen c.args.moment.now) (seen c.deallocate.new.moment) (g.K.Sink.taken c.args.out.now) (g.K.Sink.taken c.args.out.now) c.deallocate.result (c.deallocate.ensures c.args.width c.args.input.now (g.K.Sink.taken c.args.out.now)))))

-- ---- the sink, where nothing is given

pub statement-returns-in-Assign-clause-told : goal.statement-returns-in-Assign-clause-told
statement-returns-in-Assign-clause-told g t c = λ p w is suits bytes.
    still _ bytes
    (rw c.left.ensures
    (at_statement (fortran90 c.args.width) c.args.stmt.now _ c.args.input.now (seen c.args.moment.now) (seen c.assignment.new.self) (Some bytes) (Some bytes) (ended_by (unfinished c.assignment.result)) (ap statement_of c.in-Assign.is ∙ statement_of-assign _ _ _ _)
    (finished _ c.args.input.now (seen c.args.moment.now) (seen c.assignment.new.self) (Some bytes) (Some bytes) c.assignment.result (c.assignment.ensures None c.args.input.now (Some bytes)))))

pub statement-returns-in-Go-clause-told : goal.statement-returns-in-Go-clause-told
statement-returns-in-Go-clause-told g t c = λ p w is suits bytes.
    still _ bytes
    (rw c.left-in-Go.ensures
    (at_statement (fortran90 c.args.width) c.args.stmt.now _ c.args.input.now (seen c.args.moment.now) (seen c.go.new.moment) (Some bytes) (Some bytes) (ended_by (unfinished c.go.result)) (ap statement_of c.in-Go.is ∙ statement_of-go _ _)
    (finished _ c.args.input.now (seen c.args.moment.now) (seen c.go.new.moment) (Some bytes) (Some bytes) c.go.result (c.go.ensures c.args.width c.args.input.now (Some bytes)))))

pub statement-returns-in-Stop-clause-told : goal.statement-returns-in-Stop-clause-told
statement-returns-in-Stop-clause-told g t c = λ p w is suits bytes.
    still _ bytes
    (rw c.left-in-Stop.ensures
    (at_statement (fortran90 c.args.width) c.args.stmt.now _ c.args.input.now (seen c.args.moment.now) (seen c.stop.new.moment) (Some bytes) (Some bytes) (ended_by (unfinished c.stop.result)) (ap statement_of c.in-Stop.is ∙ statement_of-stop _)
    (finished _ c.args.input.now (seen c.args.moment.now) (seen c.stop.new.moment) (Some bytes) (Some bytes) c.stop.result (c.stop.ensures c.args.width c.args.input.now (Some bytes)))))

pub statement-returns-in-Read-clause-told : goal.statement-returns-in-Read-clause-told
statement-returns-in-Read-clause-told g t c = λ p w is suits bytes.
    still _ bytes
    (rw c.left-in-Read.ensures
    (at_statement (fortran90 c.args.width) c.args.stmt.now _ c.args.input.now (seen c.args.moment.now) (seen c.read_statement.new.moment) (Some bytes) (Some bytes) (ended_by (unfinished c.read_statement.result)) (ap statement_of c.in-Read.is ∙ statement_of-read _ _)
    (finished _ c.args.input.now (seen c.args.moment.now) (seen c.read_statement.new.moment) (Some bytes) (Some bytes) c.read_statement.result (c.read_statement.ensures (Some bytes)))))

pub statement-returns-in-Label-clause-told : goal.statement-returns-in-Label-clause-told
statement-returns-in-Label-clause-told g t c = λ p w is suits bytes.
    still _ bytes
    (at_statement (fortran90 c.args.width) c.args.stmt.now _ c.args.input.now (seen c.args.moment.now) (seen c.args.moment.now) (Some bytes) (Some bytes) (Ok tt) (ap statement_of c.in-Label.is ∙ statement_of-label _) (label_runs (fortran90 c.args.width) _ c.args.input.now (seen c.args.moment.now) (Some bytes)))

pub statement-returns-in-Masked-clause-told : goal.statement-returns-in-Masked-clause-told
statement-returns-in-Masked-clause-told g t c = λ p w is suits bytes.
    still _ bytes
    (rw c.left-in-Masked.ensures
    (at_statement (fortran90 c.args.width) c.args.stmt.now _ c.args.input.now (seen c.args.moment.now) (seen c.masked_assignment.new.self) (Some bytes) (Some bytes) (ended_by (unfinished c.masked_assignment.result)) (ap statement_of c.in-Masked.is ∙ statement_of-masked _ _ _ _ _)
    (finished _ c.args.input.now (seen c.args.moment.now) (seen c.masked_assignment.new.self) (Some bytes) (Some bytes) c.masked_assignment.result (c.masked_assignment.ensures None c.args.input.now (Some bytes)))))

pub statement-returns-in-Allocate-clause-told : goal.statement-returns-in-Allocate-clause-told
statement-returns-in-Allocate-clause-told g t c = λ p w is suits bytes.
    still _ bytes
    (rw c.left-in-Allocate.ensures
    (at_statement (fortran90 c.args.width) c.args.stmt.now _ c.args.input.now (seen c.args.moment.now) (seen c.allocate.new.moment) (Some bytes) (Some bytes) (ended_by (unfinished c.allocate.result)) (ap statement_of c.in-Allocate.is ∙ statement_of-allocate _ _ _)
    (finished _ c.args.input.now (seen c.args.moment.now) (seen c.allocate.new.moment) (Some bytes) (Some bytes) c.allocate.result ((let k = array_kind c.args.width p (map declaration_of c.args.moment.now.decls) (slots_of c.args.moment.now) (seen c.args.moment.now) c.in-Allocate.name _ c.args.moment.now.kinds refl refl suits (subst (λ c. IsStatement p.declarations c w) (ap statement_of c.in-Allocate.is ∙ statement_of-allocate _ _ _) is).1 in c.allocate.ensures k.0 k.1 k.2 c.args.input.now (Some bytes))))))

pub statement-returns-in-Deallocate-clause-told : goal.statement-returns-in-Deallocate-clause-told
statement-returns-in-Deallocate-clause-told g t c = λ p w is suits bytes.
    still _ bytes
    (rw c.left-in-Deallocate.ensures
    (at_statement (fortran90 c.args.width) c.args.stmt.now _ c.args.input.now (seen c.args.moment.now) (seen c.deallocate.new.moment) (Some bytes) (Some bytes) (ended_by (unfinished c.deallocate.result)) (ap statement_of c.in-Deallocate.is ∙ statement_of-deallocate _ _)
    (finished _ c.args.input.now (seen c.args.moment.now) (seen c.deallocate.new.moment) (Some bytes) (Some bytes) c.deallocate.result (c.deallocate.ensures c.args.width c.args.input.now (Some bytes)))))

pub statement-returns-in-Print-clause-told : goal.statement-returns-in-Print-clause-told
statement-returns-in-Print-clause-told g t c = λ p w is suits bytes.
    let k = c.print_statement.ensures.told c.args.input.now bytes in
    kept k
    (at_statement (fortran90 c.args.width) c.args.stmt.now _ c.args.input.now (seen c.args.moment.now) (seen c.print_statement.new.moment) (Some bytes) (Some k.after) (ended_by c.print_statement.result) (ap statement_of c.in-Print.is ∙ statement_of-print _ _) k.does)

pub statement-returns-in_err-done-in-If-clause-told : goal.statement-returns-in_err-done-in-If-clause-told
unfolding Chooses
statement-returns-in_err-done-in-If-clause-told g t c = λ p w is suits bytes.
    let k = c.in_err-done-in-If.ensures.told p w (subst (λ c. IsStatement p.declarations c w) (ap statement_of c.in-If.is ∙ statement_of-if c.in-If.line c.in-If.arms c.in-If.other) is).2 suits bytes in
    kept k
    (rw (residual c.from_residual.ensures.1)
    (at_statement (fortran90 c.args.width) c.args.stmt.now _ c.args.input.now (seen c.args.moment.now) (seen c.choose.new.moment) (Some bytes) (Some k.after) (Err (left_at c.in_err-done-in-If.field-0.0)) (ap statement_of c.in-If.is ∙ statement_of-if c.in-If.line c.in-If.arms c.in-If.other) (k.does (λ limit. does_all (fortran90 c.args.width) limit (block_of c.in-If.other)) (Extends-does_all (fortran90 c.args.width) (block_of c.in-If.other)))))

pub statement-returns-then-done-clause-told : goal.statement-returns-then-done-clause-told
unfolding Chooses
statement-returns-then-done-clause-told g t c = λ p w is suits bytes.
    let k = c.in_ok-done-in-If.ensures.told p w (subst (λ c. IsStatement p.declarations c w) (ap statement_of c.in-If.is ∙ statement_of-if c.in-If.line c.in-If.arms c.in-If.other) is).2 suits bytes in
    kept k
    (at_statement (fortran90 c.args.width) c.args.stmt.now _ c.args.input.now (seen c.args.moment.now) (seen c.choose.new.moment) (Some bytes) (Some k.after) (Ok tt) (ap statement_of c.in-If.is ∙ statement_of-if c.in-If.line c.in-If.arms c.in-If.other)
    (subst (λ b. Chooses c.args.width c.in-If.line (plain_arms c.in-If.arms) c.args.input.now (seen c.args.moment.now) (Some bytes) (seen c.choose.new.moment) (Some k.after) (Ok b)) c.if-done.true k.does (λ limit. does_all (fortran90 c.args.width) limit (block_of c.in-If.other))))

pub statement-returns-else-done-clause-told : goal.statement-returns-else-done-clause-told
unfolding Chooses
statement-returns-else-done-clause-told g t c = λ p w is suits bytes.
    let k = c.in_ok-done-in-If.ensures.told p w (subst (λ c. IsStatement p.declarations c w) (ap statement_of c.in-If.is ∙ statement_of-if c.in-If.line c.in-If.arms c.in-If.other) is).2 suits bytes in
    let l = c.block.ensures.told p w (subst (λ c. IsStatement p.declarations c w) (ap statement_of c.in-If.is ∙ statement_of-if c.in-If.line c.in-If.arms c.in-If.other) is).3 (chosen_suits c.args.width p w c.in-If.line c.in-If.arms (block_of c.in-If.other) (subst (λ c. IsStatement p.declarations c w) (ap statement_of c.in-If.is ∙ statement_of-if c.in-If.line c.in-If.arms c.in-If.other) is) c.args.input.now (seen c.args.moment.now) (g.K.Sink.taken c.args.out.now) (seen c.choose.new.moment) (g.K.Sink.taken c.choose.new.out) (subst (λ b. Chooses c.args.width c.in-If.line (plain_arms c.in-If.arms) c.args.input.now (seen c.args.moment.now) (g.K.Sink.taken c.args.out.now) (seen c.choose.new.moment) (g.K.Sink.taken c.choose.new.out) (Ok b)) c.if-done.false (c.in_ok-done-in-If.ensures.run p w (subst (λ c. IsStatement p.declarations c w) (ap statement_of c.in-If.is ∙ statement_of-if c.in-If.line c.in-If.arms c.in-If.other) is).2 suits)) suits) k.after in
    both k l
    (at_statement (fortran90 c.args.width) c.args.stmt.now _ c.args.input.now (seen c.args.moment.now) (seen c.block.new.moment) (Some bytes) (Some l.after) (ended_by c.block.result) (ap statement_of c.in-If.is ∙ statement_of-if c.in-If.line c.in-If.arms c.in-If.other)
    (subst (λ b. Chooses c.args.width c.in-If.line (plain_arms c.in-If.arms) c.args.input.now (seen c.args.moment.now) (Some bytes) (seen c.choose.new.moment) (Some k.after) (Ok b)) c.if-done.false k.does (λ limit. does_all (fortran90 c.args.width) limit (block_of c.in-If.other)) (seen c.block.new.moment) (Some l.after) (ended_by c.block.result)
    l.does))

pub statement-returns-in_err-turns-in-Do-clause-told : goal.statement-returns-in_err-turns-in-Do-clause-told
statement-returns-in_err-turns-in-Do-clause-told g t c = λ p w is suits bytes.
    still _ bytes
    (rw (residual c.from_residual-in_err-turns-in-Do.ensures.1)
    (at_statement (fortran90 c.args.width) c.args.stmt.now _ c.args.input.now (seen c.args.moment.now) (seen c.begin_loop.new.self) (Some bytes) (Some bytes) (Err (left_at (unfinished_by c.in_err-turns-in-Do.field-0.0))) (ap statement_of c.in-Do.is ∙ statement_of-do c.in-Do.line c.in-Do.var c.in-Do.first c.in-Do.last c.in-Do.step c.in-Do.body)
    (left_so (λ limit. loops (fortran90 c.args.width) limit c.in-Do.line c.in-Do.var (expression_of c.in-Do.first) (expression_of c.in-Do.last) (expression_of c.in-Do.step) (does_all (fortran90 c.args.width) limit (block_of c.in-Do.body))) c.args.input.now (seen c.args.moment.now) (seen c.begin_loop.new.self) (Some bytes) (Some bytes) c.in_err-turns-in-Do.field-0.0
    (begins_stuck c.args.width c.in-Do.line c.in-Do.var (expression_of c.in-Do.first) (expression_of c.in-Do.last) (expression_of c.in-Do.step) (seen c.args.moment.now) (seen c.begin_loop.new.self) c.in_err-turns-in-Do.field-0.0 c.in_err-turns-in-Do.ensures (λ limit. does_all (fortran90 c.args.width) limit (block_of c.in-Do.body)) c.args.input.now (Some bytes) (Extends-does_all (fortran90 c.args.width) (block_of c.in-Do.body))))))

pub statement-returns-in_err-count_step-in-Do-clause-told : goal.statement-returns-in_err-count_step-in-Do-clause-told
statement-returns-in_err-count_step-in-Do-clause-told g t c = λ p w is suits bytes.
    let k = c.loop.invariant.2 p w is suits bytes in
    kept k
    (rw (residual c.from_residual-in_err-count_step-in-Do.ensures.1)
    (k.does (Some k.after) (seen c.count_step.new.self) (Err (Halted c.in_err-count_step-in-Do.field-0.0))
    (at_turn (fortran90 c.args.width) c.in-Do.line c.in-Do.var c.in_ok-turns-in-Do.turns.step (λ limit. does_all (fortran90 c.args.width) limit (block_of c.in-Do.body)) c.args.input.now (c.in_ok-turns-in-Do.turns.count - c.loop.counter) (c.in_ok-turns-in-Do.turns.count - (c.loop.counter + 1)) (seen c.loop.moment) (seen c.count_step.new.self) (Some k.after) (Some k.after) (Err (Halted c.in_err-count_step-in-Do.field-0.0)) (omega (arith, c.loop-test.true))
    (turn_cut (fortran90 c.args.width) c.in-Do.line c.in-Do.var c.in_ok-turns-in-Do.turns.step (λ limit. does_all (fortran90 c.args.width) limit (block_of c.in-Do.body)) c.args.input.now (c.in_ok-turns-in-Do.turns.count - (c.loop.counter + 1)) (seen c.loop.moment) (seen c.count_step.new.self) (Some k.after) c.in_err-count_step-in-Do.field-0.0 c.in_err-count_step-in-Do.ensures.counted))))

pub statement-returns-in_err-block-in-Do-clause-told : goal.statement-returns-in_err-block-in-Do-clause-told
statement-returns-in_err-block-in-Do-clause-told g t c = λ p w is suits bytes.
    let k = c.loop.invariant.2 p w is suits bytes in
    let l = c.in_err-block-in-Do.ensures.told p (within_loop c.in-Do.var w) (subst (λ c. IsStatement p.declarations c w) (ap statement_of c.in-Do.is ∙ statement_of-do c.in-Do.line c.in-Do.var c.in-Do.first c.in-Do.last c.in-Do.step c.in-Do.body) is).5 (suits_step c.args.width p (seen c.loop.moment) (seen c.count_step.new.self) c.in_ok-count_step-in-Do.ensures.counted (c.loop.invariant.0 p w is suits).0) k.after in
    both k l
    (rw (residual c.from_residual-in_err-block-in-Do.ensures.1)
    (k.does (Some l.after) (seen c.block-in-loop.new.moment) (Err (left_at c.in_err-block-in-Do.field-0.0))
    (at_turn (fortran90 c.args.width) c.in-Do.line c.in-Do.var c.in_ok-turns-in-Do.turns.step (λ limit. does_all (fortran90 c.args.width) limit (block_of c.in-Do.body)) c.args.input.now (c.in_ok-turns-in-Do.turns.count - c.loop.counter) (c.in_ok-turns-in-Do.turns.count - (c.loop.counter + 1)) (seen c.loop.moment) (seen c.block-in-loop.new.moment) (Some k.after) (Some l.after) (Err (left_at c.in_err-block-in-Do.field-0.0)) (omega (arith, c.loop-test.true))
    (turn_left (fortran90 c.args.width) c.in-Do.line c.in-Do.var c.in_ok-turns-in-Do.turns.step (λ limit. does_all (fortran90 c.args.width) limit (block_of c.in-Do.body)) c.args.input.now (c.in_ok-turns-in-Do.turns.count - (c.loop.counter + 1)) (seen c.loop.moment) (seen c.count_step.new.self) (seen c.block-in-loop.new.moment) (Some k.after) (Some l.after) (left_at c.in_err-block-in-Do.field-0.0) (Extends-does_all (fortran90 c.args.width) (block_of c.in-Do.body)) c.in_ok-count_step-in-Do.ensures.counted l.does))))

pub statement-returns-in_err-increase-in-Do-clause-told : goal.statement-returns-in_err-increase-in-Do-clause-told
statement-returns-in_err-increase-in-Do-clause-told g t c = λ p w is suits bytes.
    let k = c.loop.invariant.2 p w is suits bytes in
    let l = c.in_ok-block-in-Do.ensures.told p (within_loop c.in-Do.var w) (subst (λ c. IsStatement p.declarations c w) (ap statement_of c.in-Do.is ∙ statement_of-do c.in-Do.line c.in-Do.var c.in-Do.first c.in-Do.last c.in-Do.step c.in-Do.body) is).5 (suits_step c.args.width p (seen c.loop.moment) (seen c.count_step.new.self) c.in_ok-count_step-in-Do.ensures.counted (c.loop.invariant.0 p w is suits).0) k.after in
    both k l
    (rw (residual c.from_residual-in_err-increase-in-Do.ensures.1)
    (k.does (Some l.after) (seen c.increase.new.self) (Err (Halted c.in_err-increase-in-Do.field-0.0))
    (at_turn (fortran90 c.args.width) c.in-Do.line c.in-Do.var c.in_ok-turns-in-Do.turns.step (λ limit. does_all (fortran90 c.args.width) limit (block_of c.in-Do.body)) c.args.input.now (c.in_ok-turns-in-Do.turns.count - c.loop.counter) (c.in_ok-turns-in-Do.turns.count - (c.loop.counter + 1)) (seen c.loop.moment) (seen c.increase.new.self) (Some k.after) (Some l.after) (Err (Halted c.in_err-increase-in-Do.field-0.0)) (omega (arith, c.loop-test.true))
    (turn_stuck (fortran90 c.args.width) c.in-Do.line c.in-Do.var c.in_ok-turns-in-Do.turns.step (λ limit. does_all (fortran90 c.args.width) limit (block_of c.in-Do.body)) c.args.input.now (c.in_ok-turns-in-Do.turns.count - (c.loop.counter + 1)) (seen c.loop.moment) (seen c.count_step.new.self) (seen c.block-in-loop.new.moment) (seen c.increase.new.self) (Some k.after) (Some l.after) c.in_err-increase-in-Do.field-0.0 (Extends-does_all (fortran90 c.args.width) (block_of c.in-Do.body)) c.in_ok-count_step-in-Do.ensures.counted l.does
    (subst (λ d. Runs (λ limit. increases (fortran90 c.args.width) limit c.in-Do.line c.in-Do.var d) c.args.input.now (seen c.block-in-loop.new.moment) (Some l.after) (seen c.increase.new.self) (Some l.after) (Err (Halted c.in_err-increase-in-Do.field-0.0))) (settled c.in_ok-turns-in-Do.turns.step (search rules)) (c.in_err-increase-in-Do.ensures c.args.input.now (Some l.after)))))))

pub statement-returns-after-loop-clause-told : goal.statement-returns-after-loop-clause-told
statement-returns-after-loop-clause-told g t c = λ p w is suits bytes.
    let k = c.loop.invariant.2 p w is suits bytes in
    kept k
    (k.does (Some k.after) (seen c.loop.moment) (Ok tt) (no_turn (fortran90 c.args.width) c.in-Do.line c.in-Do.var c.in_ok-turns-in-Do.turns.step (λ limit. does_all (fortran90 c.args.width) limit (block_of c.in-Do.body)) c.args.input.now (c.in_ok-turns-in-Do.turns.count - c.loop.counter) (seen c.loop.moment) (Some k.after) (omega (arith, c.loop-test.false))))

pub choose-returns-in_err-count_step-clause-told : goal.choose-returns-in_err-count_step-clause-told
unfolding Chooses
choose-returns-in_err-count_step-clause-told g t c = λ p w is suits bytes.
    let k = c.loop-arm.invariant.3 bytes in
    kept k
    (rw (residual c.from_residual.ensures.1)
    (λ other extends. k.does other (Some k.after) (seen c.count_step.new.self) (Err (Halted c.in_err-count_step.field-0.0))
    (arm_cut c.args.line other c.as_slice-arm-items.result.now c.loop-arm.arm-index c.arm-item.result (omega (arith, c.loop-arm-test.true)) c.arm-item.is c.args.input.now (seen c.loop-arm.moment) (seen c.count_step.new.self) (fortran90 c.args.width) (Some k.after) c.in_err-count_step.field-0.0 c.in_err-count_step.ensures.counted)))

pub choose-returns-in_err-holds-clause-told : goal.choose-returns-in_err-holds-clause-told
unfolding Chooses
choose-returns-in_err-holds-clause-told g t c = λ p w is suits bytes.
    let k = c.loop-arm.invariant.3 bytes in
    kept k
    (rw (residual c.from_residual-in_err-holds.ensures.1)
    (λ other extends. k.does other (Some k.after) (seen c.count_step.new.self) (Err (left_at (unfinished_by c.in_err-holds.field-0.0)))
    (arm_stuck c.args.width c.args.line other c.as_slice-arm-items.result.now c.loop-arm.arm-index c.arm-item.result (omega (arith, c.loop-arm-test.true)) c.arm-item.is c.args.input.now (seen c.loop-arm.moment) (seen c.count_step.new.self) (Some k.after) c.in_err-holds.field-0.0 extends c.in_ok-count_step.ensures.counted c.in_err-holds.ensures)))

pub choose-returns-in_err-block-clause-told : goal.choose-returns-in_err-block-clause-told
unfolding Chooses
choose-returns-in_err-block-clause-told g t c = λ p w is suits bytes.
    let h = arm_here p.declarations w c.as_slice-arm-items.result.now c.loop-arm.arm-index c.arm-item.result (omega (arith, c.loop-arm-test.true)) c.arm-item.is (c.loop-arm.invariant.1 p w is suits).0 in
    let k = c.loop-arm.invariant.3 bytes in
    let l = c.in_err-block.ensures.told p w h.0 (suits_step c.args.width p (seen c.loop-arm.moment) (seen c.count_step.new.self) c.in_ok-count_step.ensures.counted (c.loop-arm.invariant.1 p w is suits).1) k.after in
    both k l
    (rw (residual c.from_residual-in_err-block.ensures.1)
    (λ other extends. k.does other (Some l.after) (seen c.block.new.moment) (Err (left_at c.in_err-block.field-0.0))
    (arm_true c.args.line other c.as_slice-arm-items.result.now c.loop-arm.arm-index c.arm-item.result (omega (arith, c.loop-arm-test.true)) c.arm-item.is c.args.input.now (seen c.loop-arm.moment) (seen c.count_step.new.self) (fortran90 c.args.width) (seen c.block.new.moment) (Some k.after) (Some l.after) (Err (left_at c.in_err-block.field-0.0)) c.in_ok-holds.holds c.in_ok-count_step.ensures.counted (sym (ap (located c.args.line) c.in_ok-holds.ensures)) c.if-holds.true l.does)))

pub choose-returns-then-holds-clause-told : goal.choose-returns-then-holds-clause-told
unfolding Chooses
choose-returns-then-holds-clause-told g t c = λ p w is suits bytes.
    let h = arm_here p.declarations w c.as_slice-arm-items.result.now c.loop-arm.arm-index c.arm-item.result (omega (arith, c.loop-arm-test.true)) c.arm-item.is (c.loop-arm.invariant.1 p w is suits).0 in
    let k = c.loop-arm.invariant.3 bytes in
    let l = c.in_ok-block.ensures.told p w h.0 (suits_step c.args.width p (seen c.loop-arm.moment) (seen c.count_step.new.self) c.in_ok-count_step.ensures.counted (c.loop-arm.invariant.1 p w is suits).1) k.after in
    both k l
    (λ other. k.does other (Some l.after) (seen c.block.new.moment) (Ok tt)
    (arm_true c.args.line other c.as_slice-arm-items.result.now c.loop-arm.arm-index c.arm-item.result (omega (arith, c.loop-arm-test.true)) c.arm-item.is c.args.input.now (seen c.loop-arm.moment) (seen c.count_step.new.self) (fortran90 c.args.width) (seen c.block.new.moment) (Some k.after) (Some l.after) (Ok tt) c.in_ok-holds.holds c.in_ok-count_step.ensures.counted (sym (ap (located c.args.line) c.in_ok-holds.ensures)) c.if-holds.true l.does))

pub choose-returns-clause-told : goal.choose-returns-clause-told
unfolding Chooses
choose-returns-clause-told g t c = λ p w is suits bytes.
    let k = c.loop-arm.invariant.3 bytes in
    kept k
    (λ other end after r h. k.does other after end r
    (arms_done (fortran90 c.args.width) c.args.line other c.as_slice-arm-items.result.now c.loop-arm.arm-index c.args.input.now (seen c.loop-arm.moment) end (Some k.after) after r (omega (arith, c.loop-arm-test.false)) h))

pub block-returns-in_err-jump-clause-told : goal.block-returns-in_err-jump-clause-told
block-returns-in_err-jump-clause-told g t c = λ p w is suits bytes.
    let k = c.loop-stmt.invariant.0 p w is suits in
    let a = statement_here p.declarations w c.as_slice-stmt-items.result.now c.loop-stmt.stmt-index c.stmt-item.result (omega (arith, c.loop-stmt-test.true)) c.stmt-item.is k.0 in
    let q = c.loop-stmt.invariant.2 p w is suits bytes in
    let l = c.statement.ensures.told p _ a.0 k.1 q.after in
    both q l
    (rw (residual c.from_residual.ensures.1)
    (q.does (Some l.after) (seen c.statement.new.moment) (Err (left_at c.in_err-jump.field-0.0))
    (subst (λ j. RunsOn (way_at j) (left_of_block (fortran90 c.args.width) (drop c.loop-stmt.stmt-index c.as_slice-stmt-items.result.now)) c.args.input.now (seen c.loop-stmt.moment) (Some q.after) (seen c.statement.new.moment) (Some l.after) (Err (left_at c.in_err-jump.field-0.0))) (sym (none_left c.loop-stmt.jump c.in_default.not-Some)) (block_left c.as_slice-stmt-items.result.now c.loop-stmt.stmt-index c.stmt-item.result (omega (arith, c.loop-stmt-test.true)) c.stmt-item.is c.args.input.now (fortran90 c.args.width) (seen c.loop-stmt.moment) (seen c.statement.new.moment) (Some q.after) (Some l.after) (ended_by c.statement.result) (left_at c.in_err-jump.field-0.0) (landed_off c.statement.result c.in_err-jump.field-0.0 (sym c.in_err-jump.was ∙ c.landed.ensures)) l.does))))

pub block-returns-in-None-clause-told : goal.block-returns-in-None-clause-told
block-returns-in-None-clause-told g t c = λ p w is suits bytes.
    let q = c.loop-stmt.invariant.2 p w is suits bytes in
    kept q
    (q.does (Some q.after) (seen c.loop-stmt.moment) (Ok tt)
    (subst (λ j. RunsOn (way_at j) (left_of_block (fortran90 c.args.width) (drop c.loop-stmt.stmt-index c.as_slice-stmt-items.result.now)) c.args.input.now (seen c.loop-stmt.moment) (Some q.after) (seen c.loop-stmt.moment) (Some q.after) (Ok tt)) (sym c.in-None.is) (block_done (fortran90 c.args.width) c.as_slice-stmt-items.result.now c.loop-stmt.stmt-index (omega (arith, c.loop-stmt-test.false)) c.args.input.now (seen c.loop-stmt.moment) (Some q.after))))

pub block-returns-in-Some-jump-clause-told : goal.block-returns-in-Some-jump-clause-told
block-returns-in-Some-jump-clause-told g t c = λ p w is suits bytes.
    let q = c.loop-stmt.invariant.2 p w is suits bytes in
    kept q
    (q.does (Some q.after) (seen c.loop-stmt.moment) (Err (Halted (Jump c.in-Some-jump.label)))
    (subst (λ j. RunsOn (way_at j) (left_of_block (fortran90 c.args.width) (drop c.loop-stmt.stmt-index c.as_slice-stmt-items.result.now)) c.args.input.now (seen c.loop-stmt.moment) (Some q.after) (seen c.loop-stmt.moment) (Some q.after) (Err (Halted (Jump c.in-Some-jump.label)))) (sym c.in-Some-jump.is) (block_jumped (fortran90 c.args.width) c.as_slice-stmt-items.result.now c.loop-stmt.stmt-index (omega (arith, c.loop-stmt-test.false)) c.args.input.now (seen c.loop-stmt.moment) (Some q.after) c.in-Some-jump.label)))

pub choose-loop-arm-init : goal.choose-loop-arm-init
choose-loop-arm-init g t c = (
  λ other now last r h.
      subst (λ xs. Runs (left_of_arms (fortran90 c.args.width) c.args.line other xs) c.args.input.now (seen c.args.moment.now) (g.K.Sink.taken c.args.out.now) last now r) c.as_slice-arm-items.ensures h,
  λ p w is suits. (subst (λ xs. AreArms p.declarations (plain_arms xs) w) (sym c.as_slice-arm-items.ensures) is, suits),
  refl,
  λ bytes. still _ bytes
      (λ other now last r h. subst (λ xs. Runs (left_of_arms (fortran90 c.args.width) c.args.line other xs) c.args.input.now (seen c.args.moment.now) (Some bytes) last now r) c.as_slice-arm-items.ensures h),
)

pub statement-returns-in_err-turns-in-Do-clause-fault : goal.statement-returns-in_err-turns-in-Do-clause-fault
statement-returns-in_err-turns-in-Do-clause-fault g t c = λ e. absurd (no_write _ c.in_err-turns-in-Do.field-0.0 (residual c.from_residual-in_err-turns-in-Do.ensures.1) e)

pub choose-returns-in_err-holds-clause-fault : goal.choose-returns-in_err-holds-clause-fault
choose-returns-in_err-holds-clause-fault g t c = λ e. absurd (no_write _ c.in_err-holds.field-0.0 (residual c.from_residual-in_err-holds.ensures.1) e)

pub statement-returns-in-Assign-clause-fault : goal.statement-returns-in-Assign-clause-fault
statement-returns-in-Assign-clause-fault g t c = λ e. absurd (never_left c.assignment.result (sym c.left.ensures ∙ e))

pub statement-returns-in-Masked-clause-fault : goal.statement-returns-in-Masked-clause-fault
statement-returns-in-Masked-clause-fault g t c = λ e. absurd (never_left c.masked_assignment.result (sym c.left-in-Masked.ensures ∙ e))

pub statement-returns-in-Go-clause-fault : goal.statement-returns-in-Go-clause-fault
statement-returns-in-Go-clause-fault g t c = λ e. absurd (never_left c.go.result (sym c.left-in-Go.ensures ∙ e))

pub statement-returns-in-Stop-clause-fault : goal.statement-returns-in-Stop-clause-fault
statement-returns-in-Stop-clause-fault g t c = λ e. absurd (never_left c.stop.result (sym c.left-in-Stop.ensures ∙ e))

pub statement-returns-in-Read-clause-fault : goal.statement-returns-in-Read-clause-fault
statement-returns-in-Read-clause-fault g t c = λ e. absurd (never_left c.read_statement.result (sym c.left-in-Read.ensures ∙ e))

pub statement-returns-in-Allocate-clause-fault : goal.statement-returns-in-Allocate-clause-fault
statement-returns-in-Allocate-clause-fault g t c = λ e. absurd (never_left c.allocate.result (sym c.left-in-Allocate.ensures ∙ e))

pub statement-returns-in-Deallocate-clause-fault : goal.statement-returns-in-Deallocate-clause-fault
statement-returns-in-Deallocate-clause-fault g t c = λ e. absurd (never_left c.deallocate.result (sym c.left-in-Deallocate.ensures ∙ e))

pub block-returns-in_err-jump-clause-fault : goal.block-returns-in_err-jump-clause-fault
block-returns-in_err-jump-clause-fault g t c = λ e.
    subst (λ n. Rose n (g.K.Sink.faults c.statement.new.out)) c.loop-stmt.invariant.1
    (c.statement.ensures.fault (block_unwritten c.statement.result _ c.in_err-jump.field-0.0 (residual c.from_residual.ensures.1) (sym c.in_err-jump.was ∙ c.landed.ensures) e))

pub block-returns-in_err-jump-clause-no_fault : goal.block-returns-in_err-jump-clause-no_fault
block-returns-in_err-jump-clause-no_fault g t c = λ e.
    c.statement.ensures.no_fault (block_unfailed c.statement.result _ c.in_err-jump.field-0.0 (residual c.from_residual.ensures.1) (sym c.in_err-jump.was ∙ c.landed.ensures) e)
    ∙ c.loop-stmt.invariant.1
