use Rattle.tree.specs.View.{expression_of, reference_of}
use Rattle.meaning.specs.Dialect.{fortran90}
use Rattle.machine.proofs.ReadLaws.{no_name_read, name_read}
use Rattle.array_expressions.specs.assignments.Causes.{outcome}
use Rattle.array_expressions.specs.assignments.Moments.{seen}
use Rattle.array_expressions.proofs.transfers.reading.read_expression.Goals as goal

pub returns-in-Some : goal.returns-in-Some
returns-in-Some c = λ bytes.
    name_read (fortran90 c.args.width) c.args.line c.args.input.now (seen c.args.moment.now) (seen c.read_cells.new.moment) bytes
    (outcome c.read_cells.result) (expression_of c.args.expr.now) (reference_of c.in-Some.item.now) c.in-Some.ensures
    (c.read_cells.ensures bytes)

pub returns-in-None : goal.returns-in-None
returns-in-None c = λ bytes.
    no_name_read (fortran90 c.args.width) c.args.line c.args.input.now (seen c.args.moment.now) bytes (expression_of c.args.expr.now)
    c.in-None.ensures
