use Rattle.tree.specs.View.{expression_of, reference_of}
use Rattle.meaning.specs.Dialect.{fortran77}
use Rattle.machine.specs.Acts.{left_of}
use Rattle.machine.proofs.ReadLaws.{no_name_read, name_read}
use Rattle.run77.specs.Moments.{seen}
use Rattle.run77.proofs.moment.Moment.read_expression.Goals as goal

pub returns-in-Some : goal.returns-in-Some
returns-in-Some c = λ bytes.
    name_read (fortran77 c.args.width) c.args.line c.args.input.now (seen c.args.self.now) (seen c.read_cells.new.self) bytes
    (left_of c.read_cells.result) (expression_of c.args.expr.now) (reference_of c.in-Some.item.now) c.in-Some.ensures
    (c.read_cells.ensures bytes)

pub returns-in-None : goal.returns-in-None
returns-in-None c = λ bytes.
    no_name_read (fortran77 c.args.width) c.args.line c.args.input.now (seen c.args.self.now) bytes (expression_of c.args.expr.now)
    c.in-None.ensures
