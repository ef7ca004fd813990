use Rattle.std.proofs.Common.{sym, ◌∙◌, Ok, Err}
use Rattle.std.proofs.lemmas.Bool.{false≢true}
use Rattle.tree.specs.View.{reference_of}
use Rattle.meaning.specs.Dialect.{fortran90}
use Rattle.meaning.specs.Value.{cell_named}
use Rattle.machine.specs.declared.progress.Left.TheVariants.{Halted}
use Rattle.machine.proofs.Residuals.{residual}
use Rattle.machine.proofs.ReadLaws.{whole_cells, element_read}
use Rattle.array_values.specs.storage.Stored.{store_in}
use Rattle.array_expressions.specs.assignments.Causes.{outcome}
use Rattle.array_expressions.specs.assignments.Moments.{seen, slots_of}
use Rattle.array_expressions.proofs.assignments.Cells.{cell_of}
use Rattle.array_expressions.proofs.transfers.Lacking.{element_stuck}
use Rattle.array_expressions.proofs.transfers.reading.read_cells.Goals as goal

pub returns-then-is_empty : goal.returns-then-is_empty
returns-then-is_empty c = λ bytes.
    whole_cells (fortran90 c.args.width) c.args.item.now c.args.input.now c.args.line (seen c.args.moment.now) (seen c.read_whole.new.moment) bytes (outcome c.read_whole.result) (c.is_empty.ensures.0 c.if-is_empty.true) (c.read_whole.ensures bytes)

pub returns-in_err-place : goal.returns-in_err-place
returns-in_err-place c = λ bytes.
    rw (residual c.from_residual.ensures.1)
    (element_stuck c.args.width (slots_of c.args.moment.now) c.args.line c.args.item.now c.args.input.now (seen c.args.moment.now) bytes (λ e. false≢true (sym c.if-is_empty.false ∙ c.is_empty.ensures.1 e)) c.in_err-place.field-0.0 c.in_err-place.ensures.found)

pub returns-in_err-read_into : goal.returns-in_err-read_into
returns-in_err-read_into c = λ bytes.
    let cell = cell_of (slots_of c.args.moment.now) c.args.line (cell_named (fortran90 c.args.width) (reference_of c.args.item.now) (store_in c.args.moment.now.storage)) c.in_ok-place.place c.in_ok-place.ensures.found in
    rw (residual c.from_residual-in_err-read_into.ensures.1)
    (element_read (fortran90 c.args.width) c.args.item.now c.args.input.now c.args.line (seen c.args.moment.now) bytes (λ e. false≢true (sym c.if-is_empty.false ∙ c.is_empty.ensures.1 e)) cell.0 (seen c.read_into.new.moment) (Err (Halted c.in_err-read_into.field-0.0)) cell.1 (c.in_err-read_into.ensures.read cell.0 cell.2 bytes))

pub returns : goal.returns
returns c = λ bytes.
    let cell = cell_of (slots_of c.args.moment.now) c.args.line (cell_named (fortran90 c.args.width) (reference_of c.args.item.now) (store_in c.args.moment.now.storage)) c.in_ok-place.place c.in_ok-place.ensures.found in
    element_read (fortran90 c.args.width) c.args.item.now c.args.input.now c.args.line (seen c.args.moment.now) bytes (λ e. false≢true (sym c.if-is_empty.false ∙ c.is_empty.ensures.1 e)) cell.0 (seen c.read_into.new.moment) (Ok tt) cell.1 (c.in_ok-read_into.ensures.read cell.0 cell.2 bytes)
