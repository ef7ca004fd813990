use Rattle.std.proofs.Common.{subst, sym, ap, ◌∙◌}
use Rattle.tree.specs.View.{expression_of, reference_of}
use Rattle.meaning.specs.Dialect.{fortran77}
use Rattle.meaning.specs.Value.{value_of, cell_named}
use Rattle.machine.specs.Moments.{located}
use Rattle.machine.specs.Stored.{names_in, store_in}
use Rattle.machine.proofs.Residuals.{residual}
use Rattle.machine.proofs.ActLaws.{Runs-evaluates, Runs-fault, found_cell, missed_cell}
use Rattle.run77.specs.Moments.{seen}
use Rattle.meaning.proofs.Widths.{same_value, same_cell}
use Rattle.machine.specs.Stored.{Finds}
use Rattle.run77.proofs.moment.Moment.assign.Goals as goal

pub returns-in_err-value : goal.returns-in_err-value
returns-in_err-value c = λ input bytes.
    rw (residual c.from_residual.ensures.1)
    (Runs-fault c.args.line (value_of (fortran77 c.args.width) (expression_of c.args.right.now)) c.in_err-value.field-0.0 _ input (seen c.args.self.now) bytes
    (sym c.in_err-value.was ∙ c.at.ensures ∙ ap (located c.args.line) (c.value.ensures ∙ sym (same_value c.args.width (expression_of c.args.right.now) (store_in c.args.self.now.storage)))))

pub returns-in_err-place : goal.returns-in_err-place
returns-in_err-place c = λ input bytes.
    rw (residual c.from_residual-in_err-place.ensures.1)
    (Runs-evaluates c.args.line (value_of (fortran77 c.args.width) (expression_of c.args.right.now)) c.in_ok-value.value _ input (seen c.args.self.now) (seen c.args.self.now) bytes bytes _
    (sym c.in_ok-value.was ∙ c.at.ensures ∙ ap (located c.args.line) (c.value.ensures ∙ sym (same_value c.args.width (expression_of c.args.right.now) (store_in c.args.self.now.storage))))
    (Runs-fault c.args.line (cell_named (fortran77 c.args.width) (reference_of c.args.left.now)) c.in_err-place.field-0.0 _ input (seen c.args.self.now) bytes
    (missed_cell (names_in c.args.self.now.storage) c.args.line (cell_named (fortran77 c.args.width) (reference_of c.args.left.now) (store_in c.args.self.now.storage)) c.place.result c.in_err-place.field-0.0
    (subst (λ q. Finds (names_in c.args.self.now.storage) q c.place.result) (sym (same_cell c.args.width (reference_of c.args.left.now) (store_in c.args.self.now.storage))) c.place.ensures.found) (sym c.in_err-place.was ∙ c.at-2.ensures))))

pub returns : goal.returns
returns c = λ input bytes.
    let cell = found_cell (names_in c.args.self.now.storage) c.args.line (cell_named (fortran77 c.args.width) (reference_of c.args.left.now) (store_in c.args.self.now.storage)) c.place.result c.in_ok-place.place
    (subst (λ q. Finds (names_in c.args.self.now.storage) q c.place.result) (sym (same_cell c.args.width (reference_of c.args.left.now) (store_in c.args.self.now.storage))) c.place.ensures.found) (sym c.in_ok-place.was ∙ c.at-2.ensures) in
    Runs-evaluates c.args.line (value_of (fortran77 c.args.width) (expression_of c.args.right.now)) c.in_ok-value.value _ input (seen c.args.self.now) (seen c.store.new.self) bytes bytes _
    (sym c.in_ok-value.was ∙ c.at.ensures ∙ ap (located c.args.line) (c.value.ensures ∙ sym (same_value c.args.width (expression_of c.args.right.now) (store_in c.args.self.now.storage))))
    (Runs-evaluates c.args.line (cell_named (fortran77 c.args.width) (reference_of c.args.left.now)) cell.0 _ input (seen c.args.self.now) (seen c.store.new.self) bytes bytes _ cell.1
    (c.store.ensures.stored cell.0 cell.2 input bytes))
