use Rattle.std.proofs.Common.{sym, ap, ◌∙◌, subst}
use Rattle.meaning.specs.Dialect.{fortran77}
use Rattle.meaning.specs.Texts.{read_value}
use Rattle.tree.specs.Widths.{bits_of}
use Rattle.tree.specs.declared.width.Width.TheVariants.{Wide}
use Rattle.machine.specs.Moments.{located}
use Rattle.machine.specs.Stored.{names_in, store_in}
use Rattle.machine.specs.Reading.{Spells}
use Rattle.machine.proofs.Residuals.{residual}
use Rattle.machine.proofs.ReadLaws.{into_nothing, into_fault, into_cell, no_value, that_value}
use Rattle.run77.specs.Moments.{seen}
use Rattle.machine.proofs.SpellLaws.{spells_at}
use Rattle.run77.proofs.moment.Moment.read_into.Goals as goal

pub returns-in_err-word-clause-read : goal.returns-in_err-word-clause-read
returns-in_err-word-clause-read c = λ cell p bytes.
    let st = c.args.self.now.storage in
    rw (residual c.from_residual.ensures.1)
    (into_nothing (fortran77 c.args.width) c.args.input.now c.args.line cell (seen c.args.self.now) _ c.in_err-word.field-0.0 bytes
    (c.in_err-word.ensures (names_in st) (store_in st)))

pub returns-in_err-value-clause-read : goal.returns-in_err-value-clause-read
returns-in_err-value-clause-read c = λ cell p bytes.
    let st = c.args.self.now.storage in
    rw (residual c.from_residual-in_err-value.ensures.1)
    (into_fault (fortran77 c.args.width) c.args.input.now c.args.line cell (seen c.args.self.now) _ c.in_ok-word.word.now c.in_err-value.field-0.0 bytes
    (c.in_ok-word.ensures (names_in st) (store_in st))
    (no_value (bits_of Wide) c.args.line c.value.result c.in_ok-word.word.now c.read_value.result c.read_value.ensures c.in_err-value.field-0.0
    (sym c.in_err-value.was ∙ c.at.ensures)
    ∙ ap (λ v. located c.args.line (read_value v c.in_ok-word.word.now)) (sym (c.value.ensures cell p))))

pub returns-clause-read : goal.returns-clause-read
returns-clause-read c = λ cell p bytes.
    let st = c.args.self.now.storage in
    into_cell (fortran77 c.args.width) c.args.input.now c.args.line cell (seen c.args.self.now) _ c.in_ok-word.word.now (seen c.store.new.self)
    c.in_ok-value.value c.store.result bytes (c.in_ok-word.ensures (names_in st) (store_in st))
    (subst (λ v. Spells (bits_of c.args.width) v c.in_ok-word.word.now c.in_ok-value.value) (sym (c.value.ensures cell p))
    (spells_at c.args.width c.value.result c.in_ok-word.word.now c.in_ok-value.value
    (that_value (bits_of Wide) c.args.line c.value.result c.in_ok-word.word.now c.read_value.result c.read_value.ensures c.in_ok-value.value
    (sym c.in_ok-value.was ∙ c.at.ensures))))
    (c.store.ensures.stored cell p)
