use Rattle.std.proofs.Common.{sym, ◌∙◌, Ok, Err}
use Rattle.tree.specs.View.{expression_of, reference_of}
use Rattle.tree.specs.declared.ops.Value.{Value}
use Rattle.meaning.specs.Dialect.{fortran90}
use Rattle.meaning.specs.Store.{Cell}
use Rattle.meaning.specs.Value.{value_of, cell_named}
use Rattle.meaning.specs.Run.{evaluates, checks_range, counts_step, stores}
use Rattle.machine.specs.declared.progress.Left.TheVariants.{Halted}
use Rattle.machine.specs.Acts.{LimitedAct}
use Rattle.machine.proofs.Residuals.{residual}
use Rattle.machine.proofs.ActLaws.{Runs-evaluates}
use Rattle.array_values.specs.storage.Stored.{store_in}
use Rattle.array_expressions.specs.assignments.Moments.{seen, slots_of}
use Rattle.array_expressions.proofs.assignments.Cells.{not_found, cell_of}
use Rattle.array_expressions.proofs.assignments.Lacking.{asked_of, Runs-stuck, Runs-answers, Extends-assigns, Extends-evaluates, Extends-checked}
use Rattle.array_expressions.proofs.assignments.moment.Moment.assign.Goals as goal

pub returns-in_err-value : goal.returns-in_err-value
returns-in_err-value c = λ input bytes.
    let line = c.args.line in
    let left = reference_of c.args.left.now in
    let right = expression_of c.args.right.now in
    let into : Value → Cell → LimitedAct = λ v cell limit. checks_range (fortran90 c.args.width) limit line v (counts_step (fortran90 c.args.width) limit (stores cell v)) in
    rw (residual c.from_residual.ensures.1)
    (Runs-stuck line (λ (v : Value). v) (value_of (fortran90 c.args.width) right) (λ v limit. evaluates line (cell_named (fortran90 c.args.width) left) (λ cell. into v cell limit)) input (seen c.args.self.now) c.in_err-value.field-0.0 bytes
    (asked_of line (λ (v : Value). v) (value_of (fortran90 c.args.width) right) c.value.result _ c.scope.result.storage.now c.args.self.now.storage c.scope.ensures (sym c.in_err-value.was ∙ c.at.ensures) c.value.ensures)
    (Extends-assigns (fortran90 c.args.width) line left right))

pub returns-in_err-place : goal.returns-in_err-place
returns-in_err-place c = λ input bytes.
    let line = c.args.line in
    let left = reference_of c.args.left.now in
    let right = expression_of c.args.right.now in
    let into : Value → Cell → LimitedAct = λ v cell limit. checks_range (fortran90 c.args.width) limit line v (counts_step (fortran90 c.args.width) limit (stores cell v)) in
    rw (residual c.from_residual-in_err-place.ensures.1)
    (Runs-answers line (λ (v : Value). v) (value_of (fortran90 c.args.width) right) (λ v limit. evaluates line (cell_named (fortran90 c.args.width) left) (λ cell. into v cell limit)) input (seen c.args.self.now) c.in_ok-value.value (seen c.args.self.now) bytes bytes _
    (asked_of line (λ (v : Value). v) (value_of (fortran90 c.args.width) right) c.value.result _ c.scope.result.storage.now c.args.self.now.storage c.scope.ensures (sym c.in_ok-value.was ∙ c.at.ensures) c.value.ensures)
    (Runs-stuck line (λ (cell : Cell). cell) (cell_named (fortran90 c.args.width) left) (into c.in_ok-value.value) input (seen c.args.self.now) c.in_err-place.field-0.0 bytes
    (not_found (slots_of c.args.self.now) line (cell_named (fortran90 c.args.width) left (store_in c.args.self.now.storage)) c.in_err-place.field-0.0 c.in_err-place.ensures.found)
    (Extends-evaluates line (cell_named (fortran90 c.args.width) left) (into c.in_ok-value.value) (λ cell. Extends-checked (fortran90 c.args.width) line cell c.in_ok-value.value))))

pub returns-in_err-store : goal.returns-in_err-store
returns-in_err-store c = λ input bytes.
    let line = c.args.line in
    let left = reference_of c.args.left.now in
    let right = expression_of c.args.right.now in
    let into : Value → Cell → LimitedAct = λ v cell limit. checks_range (fortran90 c.args.width) limit line v (counts_step (fortran90 c.args.width) limit (stores cell v)) in
    let cell = cell_of (slots_of c.args.self.now) line (cell_named (fortran90 c.args.width) left (store_in c.args.self.now.storage)) c.in_ok-place.place c.in_ok-place.ensures.found in
    rw (residual c.from_residual-in_err-store.ensures.1)
    (Runs-answers line (λ (v : Value). v) (value_of (fortran90 c.args.width) right) (λ v limit. evaluates line (cell_named (fortran90 c.args.width) left) (λ cell. into v cell limit)) input (seen c.args.self.now) c.in_ok-value.value (seen c.store.new.self) bytes bytes _
    (asked_of line (λ (v : Value). v) (value_of (fortran90 c.args.width) right) c.value.result _ c.scope.result.storage.now c.args.self.now.storage c.scope.ensures (sym c.in_ok-value.was ∙ c.at.ensures) c.value.ensures)
    (Runs-evaluates line (cell_named (fortran90 c.args.width) left) cell.0 (into c.in_ok-value.value) input (seen c.args.self.now) (seen c.store.new.self) bytes bytes (Err (Halted c.in_err-store.field-0.0)) cell.1
    (c.in_err-store.ensures.stored cell.0 cell.2 input bytes)))

pub returns : goal.returns
returns c = λ input bytes.
    let line = c.args.line in
    let left = reference_of c.args.left.now in
    let right = expression_of c.args.right.now in
    let into : Value → Cell → LimitedAct = λ v cell limit. checks_range (fortran90 c.args.width) limit line v (counts_step (fortran90 c.args.width) limit (stores cell v)) in
    let cell = cell_of (slots_of c.args.self.now) line (cell_named (fortran90 c.args.width) left (store_in c.args.self.now.storage)) c.in_ok-place.place c.in_ok-place.ensures.found in
    Runs-answers line (λ (v : Value). v) (value_of (fortran90 c.args.width) right) (λ v limit. evaluates line (cell_named (fortran90 c.args.width) left) (λ cell. into v cell limit)) input (seen c.args.self.now) c.in_ok-value.value (seen c.store.new.self) bytes bytes (Ok tt)
    (asked_of line (λ (v : Value). v) (value_of (fortran90 c.args.width) right) c.value.result _ c.scope.result.storage.now c.args.self.now.storage c.scope.ensures (sym c.in_ok-value.was ∙ c.at.ensures) c.value.ensures)
    (Runs-evaluates line (cell_named (fortran90 c.args.width) left) cell.0 (into c.in_ok-value.value) input (seen c.args.self.now) (seen c.store.new.self) bytes bytes (Ok tt) cell.1
    (c.in_ok-store.ensures.stored cell.0 cell.2 input bytes))
