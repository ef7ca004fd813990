use Rattle.meaning.specs.Dialect.{fortran90}
use Rattle.std.proofs.Common.{refl, sym, ap, ◌∙◌, [], rules}
use Rattle.tree.specs.declared.ops.Value.TheVariants.{Int}
use Rattle.meaning.specs.Store.{cell_at, put}
use Rattle.machine.specs.Moments.{located, checked}
use Rattle.array_values.specs.storage.Stored.{store_in}
use Rattle.machine.proofs.Residuals.{residual, settled}
use Rattle.machine.proofs.ActLaws.{Runs-evaluates, Runs-fault, Runs-in_range, Runs-out_of_range, Runs-stores}
use Rattle.array_expressions.proofs.assignments.Cells.{found_cell, missed_cell, within_place}
use Rattle.array_expressions.specs.assignments.Moments.{seen, slots_of}
use Rattle.tree.specs.Widths.{bits_of}
use Rattle.array_expressions.proofs.assignments.moment.Moment.set_variable.Goals as goal

pub returns-in_err-place : goal.returns-in_err-place
returns-in_err-place c = λ input bytes.
    rw (residual c.from_residual.ensures.1)
    (Runs-fault c.args.line (cell_at c.args.name []) c.in_err-place.field-0.0 _ input (seen c.args.self.now) bytes
    (missed_cell (slots_of c.args.self.now) c.args.line (cell_at c.args.name [] (store_in c.args.self.now.storage)) c.scalar.result c.in_err-place.field-0.0
    c.scalar.ensures.found (sym c.in_err-place.was ∙ c.at.ensures)))

pub returns-in_err-at : goal.returns-in_err-at
returns-in_err-at c = λ input bytes.
    let cell = found_cell (slots_of c.args.self.now) c.args.line (cell_at c.args.name [] (store_in c.args.self.now.storage)) c.scalar.result c.in_ok-place.place
    c.scalar.ensures.found (sym c.in_ok-place.was ∙ c.at.ensures) in
    rw (residual c.from_residual-in_err-at.ensures.1)
    (Runs-evaluates c.args.line (cell_at c.args.name []) cell.0 _ input (seen c.args.self.now) (seen c.args.self.now) bytes bytes _ cell.1
    (Runs-out_of_range (fortran90 c.args.width) c.args.line (Int c.args.number) c.in_err-at.field-0.0 _ input (seen c.args.self.now) bytes
    (sym c.in_err-at.was ∙ c.at-2.ensures ∙ ap (located c.args.line) c.check_range.ensures ∙ ap (λ z. located c.args.line (checked (bits_of c.args.width) (Int z))) (settled c.args.number (search rules)))))

pub returns : goal.returns
returns c = λ input bytes.
    let cell = found_cell (slots_of c.args.self.now) c.args.line (cell_at c.args.name [] (store_in c.args.self.now.storage)) c.scalar.result c.in_ok-place.place
    c.scalar.ensures.found (sym c.in_ok-place.was ∙ c.at.ensures) in
    Runs-evaluates c.args.line (cell_at c.args.name []) cell.0 _ input (seen c.args.self.now) _ bytes bytes _ cell.1
    (Runs-in_range (fortran90 c.args.width) c.args.line (Int c.args.number) _ input (seen c.args.self.now) _ bytes bytes _ c.in_ok-at.field-0
    (sym c.in_ok-at.was ∙ c.at-2.ensures ∙ ap (located c.args.line) c.check_range.ensures ∙ ap (λ z. located c.args.line (checked (bits_of c.args.width) (Int z))) (settled c.args.number (search rules)))
    (Runs-stores cell.0 (Int c.args.number) input (seen c.args.self.now) _ bytes refl
    (c.put.ensures.stored cell.0 cell.2
    ∙ ap (λ z. put cell.0 (Int z) (store_in c.args.self.now.storage)) (settled c.args.number (search rules))) refl))

pub put-requires : goal.put-requires
put-requires c = within_place _ c.args.line c.in_ok-place.place c.scalar.result c.scalar.ensures.within (sym c.in_ok-place.was ∙ c.at.ensures)
