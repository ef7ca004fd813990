use Rattle.std.proofs.Common.{subst, sym, ◌∙◌}
use Rattle.std.proofs.lemmas.Bool.{false≢true}
use Rattle.tree.specs.View.{reference_of}
use Rattle.meaning.specs.Dialect.{fortran77}
use Rattle.meaning.specs.Value.{cell_named}
use Rattle.machine.specs.Acts.{left_of}
use Rattle.machine.specs.Stored.{names_in, store_in}
use Rattle.machine.proofs.Residuals.{residual}
use Rattle.machine.proofs.ActLaws.{found_cell, missed_cell}
use Rattle.machine.proofs.ReadLaws.{whole_cells, element_missing, element_read}
use Rattle.run77.specs.Moments.{seen}
use Rattle.meaning.proofs.Widths.{same_cell}
use Rattle.machine.specs.Stored.{Finds}
use Rattle.run77.proofs.moment.Moment.read_cells.Goals as goal

pub returns-then-is_empty : goal.returns-then-is_empty
returns-then-is_empty c = λ bytes.
    whole_cells (fortran77 c.args.width) c.args.item.now c.args.input.now c.args.line (seen c.args.self.now) (seen c.read_all.new.self) bytes (left_of c.read_all.result) (c.is_empty.ensures.0 c.if-is_empty.true) (c.read_all.ensures bytes)

pub returns-in_err-place : goal.returns-in_err-place
returns-in_err-place c = λ bytes.
    rw (residual c.from_residual.ensures.1)
    (element_missing (fortran77 c.args.width) c.args.item.now c.args.input.now c.args.line (seen c.args.self.now) bytes (λ e. false≢true (sym c.if-is_empty.false ∙ c.is_empty.ensures.1 e)) c.in_err-place.field-0.0
    (missed_cell (names_in c.args.self.now.storage) c.args.line (cell_named (fortran77 c.args.width) (reference_of c.args.item.now) (store_in c.args.self.now.storage)) c.place.result c.in_err-place.field-0.0 (subst (λ q. Finds (names_in c.args.self.now.storage) q c.place.result) (sym (same_cell c.args.width (reference_of c.args.item.now) (store_in c.args.self.now.storage))) c.place.ensures.found) (sym c.in_err-place.was ∙ c.at.ensures)))

pub returns : goal.returns
returns c = λ bytes.
    let cell = found_cell (names_in c.args.self.now.storage) c.args.line (cell_named (fortran77 c.args.width) (reference_of c.args.item.now) (store_in c.args.self.now.storage)) c.place.result c.in_ok-place.place (subst (λ q. Finds (names_in c.args.self.now.storage) q c.place.result) (sym (same_cell c.args.width (reference_of c.args.item.now) (store_in c.args.self.now.storage))) c.place.ensures.found) (sym c.in_ok-place.was ∙ c.at.ensures) in
    element_read (fortran77 c.args.width) c.args.item.now c.args.input.now c.args.line (seen c.args.self.now) bytes (λ e. false≢true (sym c.if-is_empty.false ∙ c.is_empty.ensures.1 e)) cell.0 (seen c.read_into.new.self) (left_of c.read_into.result) cell.1 (c.read_into.ensures.read cell.0 cell.2 bytes)
