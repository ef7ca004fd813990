use Rattle.std.proofs.Common.{sym, ap, ◌∙◌, subst, map}
use Rattle.tree.specs.View.{declaration_of}
use Rattle.meaning.specs.Dialect.{fortran90}
use Rattle.meaning.specs.Texts.{read_value}
use Rattle.machine.specs.Moments.{located}
use Rattle.machine.specs.Reading.{Spells}
use Rattle.machine.proofs.Residuals.{residual}
use Rattle.machine.proofs.ReadLaws.{into_nothing, into_fault, into_cell, no_value, that_value}
use Rattle.array_values.specs.storage.Stored.{store_in}
use Rattle.array_expressions.specs.assignments.Moments.{seen, slots_of}
use Rattle.array_expressions.proofs.assignments.Cells.{held_is}
use Rattle.array_expressions.proofs.assignments.Storing.{same_places}
use Rattle.tree.specs.Widths.{bits_of}
use Rattle.tree.specs.declared.width.Width.TheVariants.{Wide}
use Rattle.machine.proofs.SpellLaws.{spells_at}
use Rattle.array_expressions.proofs.transfers.reading.read_into.Goals as goal

pub returns-in_err-word-clause-read : goal.returns-in_err-word-clause-read
returns-in_err-word-clause-read c = λ cell p bytes.
    let m = c.args.moment.now in
    rw (residual c.from_residual.ensures.1)
    (into_nothing (fortran90 c.args.width) c.args.input.now c.args.line cell (seen m) _ c.in_err-word.field-0.0 bytes
    (c.in_err-word.ensures (map declaration_of m.decls) (store_in m.storage)))

pub returns-in_err-word-clause-kept : goal.returns-in_err-word-clause-kept
returns-in_err-word-clause-kept c = same_places (slots_of c.args.moment.now)

pub returns-in_err-value-clause-read : goal.returns-in_err-value-clause-read
returns-in_err-value-clause-read c = λ cell p bytes.
    let m = c.args.moment.now in
    rw (residual c.from_residual-in_err-value.ensures.1)
    (into_fault (fortran90 c.args.width) c.args.input.now c.args.line cell (seen m) _ c.in_ok-word.word.now c.in_err-value.field-0.0 bytes
    (c.in_ok-word.ensures (map declaration_of m.decls) (store_in m.storage))
    (no_value (bits_of Wide) c.args.line c.value.result c.in_ok-word.word.now c.read_value.result c.read_value.ensures c.in_err-value.field-0.0
    (sym c.in_err-value.was ∙ c.at.ensures)
    ∙ ap (λ v. located c.args.line (read_value v c.in_ok-word.word.now)) (held_is (slots_of m) cell c.value.result (c.value.ensures cell.name cell.subscripts p))))

pub returns-in_err-value-clause-kept : goal.returns-in_err-value-clause-kept
returns-in_err-value-clause-kept c = same_places (slots_of c.args.moment.now)

pub returns-clause-read : goal.returns-clause-read
returns-clause-read c = λ cell p bytes.
    let m = c.args.moment.now in
    into_cell (fortran90 c.args.width) c.args.input.now c.args.line cell (seen m) _ c.in_ok-word.word.now (seen c.store.new.self)
    c.in_ok-value.value c.store.result bytes (c.in_ok-word.ensures (map declaration_of m.decls) (store_in m.storage))
    (subst (λ v. Spells (bits_of c.args.width) v c.in_ok-word.word.now c.in_ok-value.value) (held_is (slots_of m) cell c.value.result (c.value.ensures cell.name cell.subscripts p))
    (spells_at c.args.width c.value.result c.in_ok-word.word.now c.in_ok-value.value
    (that_value (bits_of Wide) c.args.line c.value.result c.in_ok-word.word.now c.read_value.result c.read_value.ensures c.in_ok-value.value
    (sym c.in_ok-value.was ∙ c.at.ensures))))
    (c.store.ensures.stored cell p)
