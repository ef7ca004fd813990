use Rattle.std.proofs.Common.{Ok, Err}
use Rattle.meaning.specs.Dialect.{fortran77}
use Rattle.meaning.specs.Run.{then, begins_line, reads_items, skips_line}
use Rattle.machine.specs.declared.progress.Left.TheVariants.{Halted}
use Rattle.machine.specs.Printing.{plain_items}
use Rattle.machine.proofs.Residuals.{residual}
use Rattle.machine.proofs.ActLaws.{Runs-then, Runs-halted}
use Rattle.machine.proofs.ReadLaws.{Stays-rest, Stays-skips}
use Rattle.machine.specs.Moments.{seen_at}
use Rattle.machine.specs.Stored.{names_in, store_in}
use Rattle.run77.specs.Moments.{seen}
use Rattle.run77.proofs.moment.Moment.read.Goals as goal

pub returns-in_err-begin_line : goal.returns-in_err-begin_line
returns-in_err-begin_line c = λ bytes.
    rw (residual c.from_residual.ensures.1)
    (Runs-halted (λ limit. begins_line c.args.line) (λ limit. then (reads_items (fortran77 c.args.width) limit (plain_items c.args.items.now) c.args.line) skips_line) c.args.input.now (seen c.args.self.now) (seen_at (names_in c.args.self.now.storage) (store_in c.args.self.now.storage) c.begin_line.new.self) bytes bytes c.in_err-begin_line.field-0.0 (c.in_err-begin_line.ensures (names_in c.args.self.now.storage) (store_in c.args.self.now.storage) bytes) (Stays-rest (fortran77 c.args.width) (plain_items c.args.items.now) c.args.line))

pub returns-in_err-read_items : goal.returns-in_err-read_items
returns-in_err-read_items c = λ bytes.
    rw (residual c.from_residual-in_err-read_items.ensures.1)
    (Runs-then (λ limit. begins_line c.args.line) (λ limit. then (reads_items (fortran77 c.args.width) limit (plain_items c.args.items.now) c.args.line) skips_line) c.args.input.now (seen c.args.self.now) (seen_at (names_in c.args.self.now.storage) (store_in c.args.self.now.storage) c.begin_line.new.self) bytes bytes (seen c.read_items.new.self) bytes (Err (Halted c.in_err-read_items.field-0.0)) (c.in_ok-begin_line.ensures (names_in c.args.self.now.storage) (store_in c.args.self.now.storage) bytes)
    (Runs-halted (λ limit. reads_items (fortran77 c.args.width) limit (plain_items c.args.items.now) c.args.line) (λ limit. skips_line) c.args.input.now (seen_at (names_in c.args.self.now.storage) (store_in c.args.self.now.storage) c.begin_line.new.self) (seen c.read_items.new.self) bytes bytes c.in_err-read_items.field-0.0 (c.in_err-read_items.ensures bytes) Stays-skips))

pub returns : goal.returns
returns c = λ bytes.
    Runs-then (λ limit. begins_line c.args.line) (λ limit. then (reads_items (fortran77 c.args.width) limit (plain_items c.args.items.now) c.args.line) skips_line) c.args.input.now (seen c.args.self.now) (seen_at (names_in c.args.self.now.storage) (store_in c.args.self.now.storage) c.begin_line.new.self) bytes bytes _ bytes (Ok tt) (c.in_ok-begin_line.ensures (names_in c.args.self.now.storage) (store_in c.args.self.now.storage) bytes)
    (Runs-then (λ limit. reads_items (fortran77 c.args.width) limit (plain_items c.args.items.now) c.args.line) (λ limit. skips_line) c.args.input.now (seen_at (names_in c.args.self.now.storage) (store_in c.args.self.now.storage) c.begin_line.new.self) (seen c.read_items.new.self) bytes bytes _ bytes (Ok tt) (c.in_ok-read_items.ensures bytes)
    (c.skip_line.ensures (names_in c.read_items.new.self.storage) (store_in c.read_items.new.self.storage) bytes))
