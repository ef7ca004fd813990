use Rattle.std.proofs.Common.{sym, ap, ◌∙◌, List, Ok, Err}
use Rattle.meaning.specs.Dialect.{fortran90}
use Rattle.meaning.specs.Store.{Cell}
use Rattle.meaning.specs.Run.{for_each, reads_into}
use Rattle.machine.specs.Moments.{located}
use Rattle.machine.specs.Reading.{all_cells}
use Rattle.machine.specs.declared.progress.Left.TheVariants.{Halted}
use Rattle.machine.proofs.Residuals.{residual}
use Rattle.machine.proofs.ActLaws.{Runs-evaluates}
use Rattle.array_values.specs.storage.Stored.{store_in}
use Rattle.array_expressions.specs.assignments.Moments.{seen, slots_of}
use Rattle.array_expressions.proofs.assignments.Lacking.{Runs-stuck}
use Rattle.array_expressions.proofs.transfers.Lacking.{Extends-cells}
use Rattle.array_expressions.proofs.transfers.Selected.{cells_stuck, cells_given}
use Rattle.array_expressions.proofs.transfers.reading.read_whole.Goals as goal

pub returns-in_err-target : goal.returns-in_err-target
returns-in_err-target c = λ bytes.
    rw (residual c.from_residual.ensures.1)
    (Runs-stuck c.args.line (λ (cs : List Cell). cs) (all_cells c.args.name) (λ cs limit. for_each cs (reads_into (fortran90 c.args.width) limit c.args.line)) c.args.input.now (seen c.args.moment.now) c.in_err-target.field-0.0 bytes
    (cells_stuck c.args.line (slots_of c.args.moment.now) c.args.name (store_in c.args.moment.now.storage) c.target.result c.in_err-target.field-0.0 (sym c.in_err-target.was ∙ c.at.ensures) c.target.ensures)
    (Extends-cells (fortran90 c.args.width) c.args.line (all_cells c.args.name)))

pub read_all-requires : goal.read_all-requires
read_all-requires c = (cells_given c.args.line (slots_of c.args.moment.now) c.args.name (store_in c.args.moment.now.storage) c.target.result c.in_ok-target.target (sym c.in_ok-target.was ∙ c.at.ensures) c.target.ensures).1

pub returns-in_err-read_all : goal.returns-in_err-read_all
returns-in_err-read_all c = λ bytes.
    let g = (cells_given c.args.line (slots_of c.args.moment.now) c.args.name (store_in c.args.moment.now.storage) c.target.result c.in_ok-target.target (sym c.in_ok-target.was ∙ c.at.ensures) c.target.ensures).0 in
    rw (residual c.from_residual-in_err-read_all.ensures.1)
    (Runs-evaluates c.args.line (all_cells c.args.name) g.0 (λ cs limit. for_each cs (reads_into (fortran90 c.args.width) limit c.args.line)) c.args.input.now (seen c.args.moment.now) (seen c.read_all.new.moment) bytes bytes (Err (Halted c.in_err-read_all.field-0.0))
    (sym (ap (located c.args.line) g.1)) (c.in_err-read_all.ensures g.0 g.2 bytes))

pub returns : goal.returns
returns c = λ bytes.
    let g = (cells_given c.args.line (slots_of c.args.moment.now) c.args.name (store_in c.args.moment.now.storage) c.target.result c.in_ok-target.target (sym c.in_ok-target.was ∙ c.at.ensures) c.target.ensures).0 in
    Runs-evaluates c.args.line (all_cells c.args.name) g.0 (λ cs limit. for_each cs (reads_into (fortran90 c.args.width) limit c.args.line)) c.args.input.now (seen c.args.moment.now) (seen c.read_all.new.moment) bytes bytes (Ok tt)
    (sym (ap (located c.args.line) g.1)) (c.in_ok-read_all.ensures g.0 g.2 bytes)
