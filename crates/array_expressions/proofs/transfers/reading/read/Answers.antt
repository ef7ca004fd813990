use Rattle.std.proofs.Common.{Ok, Err, map}
use Rattle.meaning.specs.Dialect.{fortran90}
use Rattle.meaning.specs.Run.{then, begins_line, reads_items, skips_line}
use Rattle.machine.specs.Printing.{plain_items}
use Rattle.machine.proofs.Residuals.{residual}
use Rattle.machine.proofs.ActLaws.{Runs-then, Runs-halted}
use Rattle.machine.proofs.ReadLaws.{Stays-rest, Stays-skips}
use Rattle.machine.specs.Moments.{seen_at}
use Rattle.machine.proofs.TurnLaws.{Runs-left}
use Rattle.tree.specs.View.{declaration_of}
use Rattle.array_values.specs.storage.Stored.{store_in}
use Rattle.array_expressions.specs.assignments.Causes.{left_by}
use Rattle.array_expressions.proofs.transfers.Lacking.{Extends-skips_line}
use Rattle.array_expressions.specs.assignments.Moments.{seen}
use Rattle.array_expressions.proofs.transfers.reading.read.Goals as goal

pub returns-in_err-begin_line : goal.returns-in_err-begin_line
returns-in_err-begin_line c = λ bytes.
    rw (residual c.from_residual.ensures.1)
    (Runs-halted (λ limit. begins_line c.args.line) (λ limit. then (reads_items (fortran90 c.args.width) limit (plain_items c.args.items.now) c.args.line) skips_line) c.args.input.now (seen c.args.moment.now) (seen_at (map declaration_of c.args.moment.now.decls) (store_in c.args.moment.now.storage) c.begin_line.new.self) bytes bytes c.in_err-begin_line.field-0.0 (c.in_err-begin_line.ensures (map declaration_of c.args.moment.now.decls) (store_in c.args.moment.now.storage) bytes) (Stays-rest (fortran90 c.args.width) (plain_items c.args.items.now) c.args.line))

pub returns-in_err-read_items : goal.returns-in_err-read_items
returns-in_err-read_items c = λ bytes.
    rw (residual c.from_residual-in_err-read_items.ensures.1)
    (Runs-then (λ limit. begins_line c.args.line) (λ limit. then (reads_items (fortran90 c.args.width) limit (plain_items c.args.items.now) c.args.line) skips_line) c.args.input.now (seen c.args.moment.now) (seen_at (map declaration_of c.args.moment.now.decls) (store_in c.args.moment.now.storage) c.begin_line.new.self) bytes bytes (seen c.read_items.new.moment) bytes (Err (left_by c.in_err-read_items.field-0.0)) (c.in_ok-begin_line.ensures (map declaration_of c.args.moment.now.decls) (store_in c.args.moment.now.storage) bytes)
    (Runs-left (λ limit. reads_items (fortran90 c.args.width) limit (plain_items c.args.items.now) c.args.line) (λ limit. skips_line) c.args.input.now (seen_at (map declaration_of c.args.moment.now.decls) (store_in c.args.moment.now.storage) c.begin_line.new.self) (seen c.read_items.new.moment) bytes bytes (left_by c.in_err-read_items.field-0.0) (c.in_err-read_items.ensures bytes) Stays-skips Extends-skips_line))

pub returns : goal.returns
returns c = λ bytes.
    Runs-then (λ limit. begins_line c.args.line) (λ limit. then (reads_items (fortran90 c.args.width) limit (plain_items c.args.items.now) c.args.line) skips_line) c.args.input.now (seen c.args.moment.now) (seen_at (map declaration_of c.args.moment.now.decls) (store_in c.args.moment.now.storage) c.begin_line.new.self) bytes bytes _ bytes (Ok tt) (c.in_ok-begin_line.ensures (map declaration_of c.args.moment.now.decls) (store_in c.args.moment.now.storage) bytes)
    (Runs-then (λ limit. reads_items (fortran90 c.args.width) limit (plain_items c.args.items.now) c.args.line) (λ limit. skips_line) c.args.input.now (seen_at (map declaration_of c.args.moment.now.decls) (store_in c.args.moment.now.storage) c.begin_line.new.self) (seen c.read_items.new.moment) bytes bytes _ bytes (Ok tt) (c.in_ok-read_items.ensures bytes)
    (c.skip_line.ensures (map declaration_of c.read_items.new.moment.decls) (store_in c.read_items.new.moment.storage) bytes))
