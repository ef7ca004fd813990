use Rattle.std.proofs.Common.{sym, ap, ◌∙◌, subst, [], ◌+ℤ◌, rules}
use Rattle.meaning.specs.Dialect.{fortran90}
use Rattle.meaning.specs.Store.{cell_at}
use Rattle.machine.specs.Moments.{located}
use Rattle.machine.specs.Loops.{increased}
use Rattle.machine.specs.Acts.{Runs, left_of}
use Rattle.meaning.specs.Run.{sets_variable}
use Rattle.array_values.specs.storage.Stored.{store_in}
use Rattle.machine.proofs.Residuals.{residual, settled}
use Rattle.machine.proofs.ActLaws.{Runs-evaluates, Runs-fault}
use Rattle.array_expressions.proofs.assignments.Cells.{found_cell, missed_cell, within_place}
use Rattle.tree.specs.Steps.{◌>>=◌}
use Rattle.tree.specs.Operators.{as_number}
use Rattle.meaning.specs.Value.{exact}
use Rattle.array_expressions.specs.assignments.Moments.{seen, slots_of}
use Rattle.array_expressions.proofs.assignments.moment.Moment.increase.Goals as goal

pub returns-in_err-place : goal.returns-in_err-place
returns-in_err-place c = λ input bytes.
    rw (residual c.from_residual.ensures.1)
    (Runs-fault c.args.line (cell_at c.args.name []) c.in_err-place.field-0.0 _ input (seen c.args.self.now) bytes
    (missed_cell (slots_of c.args.self.now) c.args.line (cell_at c.args.name [] (store_in c.args.self.now.storage)) c.scalar.result c.in_err-place.field-0.0
    c.scalar.ensures.found (sym c.in_err-place.was ∙ c.at.ensures)))

pub returns-in_err-number : goal.returns-in_err-number
returns-in_err-number c = λ input bytes.
    let cell = found_cell (slots_of c.args.self.now) c.args.line (cell_at c.args.name [] (store_in c.args.self.now.storage)) c.scalar.result c.in_ok-place.place
    c.scalar.ensures.found (sym c.in_ok-place.was ∙ c.at.ensures) in
    rw (residual c.from_residual-in_err-number.ensures.1)
    (Runs-evaluates c.args.line (cell_at c.args.name []) cell.0 _ input (seen c.args.self.now) (seen c.args.self.now) bytes bytes _ cell.1
    (Runs-fault c.args.line (λ s. as_number (s.held cell.0) >>= λ z. exact (z +ℤ c.args.step)) c.in_err-number.field-0.0 _ input (seen c.args.self.now) bytes
    (sym c.in_err-number.was ∙ c.at-2.ensures ∙ ap (located c.args.line) (c.increased.ensures cell.0 cell.2 ∙ ap (increased _) (settled c.args.step (search rules))))))

pub returns : goal.returns
returns c = λ input bytes.
    let cell = found_cell (slots_of c.args.self.now) c.args.line (cell_at c.args.name [] (store_in c.args.self.now.storage)) c.scalar.result c.in_ok-place.place
    c.scalar.ensures.found (sym c.in_ok-place.was ∙ c.at.ensures) in
    Runs-evaluates c.args.line (cell_at c.args.name []) cell.0 _ input (seen c.args.self.now) (seen c.set_variable.new.self) bytes bytes _ cell.1
    (Runs-evaluates c.args.line (λ s. as_number (s.held cell.0) >>= λ z. exact (z +ℤ c.args.step)) c.in_ok-number.number _ input (seen c.args.self.now) (seen c.set_variable.new.self) bytes bytes _
    (sym c.in_ok-number.was ∙ c.at-2.ensures ∙ ap (located c.args.line) (c.increased.ensures cell.0 cell.2 ∙ ap (increased _) (settled c.args.step (search rules))))
    (subst (λ z. Runs (λ limit. sets_variable (fortran90 c.args.width) limit c.args.line c.args.name z) input (seen c.args.self.now) bytes (seen c.set_variable.new.self) bytes (left_of c.set_variable.result)) (settled c.in_ok-number.number (search rules)) (c.set_variable.ensures input bytes)))

pub increased-requires : goal.increased-requires
increased-requires c = within_place _ c.args.line c.in_ok-place.place c.scalar.result c.scalar.ensures.within (sym c.in_ok-place.was ∙ c.at.ensures)
