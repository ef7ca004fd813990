use Rattle.std.proofs.Common.{◌≡◌, ap, sym, ◌∙◌, ℕ, ◌<◌, [], length, get_or, Ok, Err, arith}
use Rattle.meaning.specs.Store.{Cell, cells_of}
use Rattle.meaning.specs.Extents.{elements_of}
use Rattle.meaning.specs.Dialect.{fortran77}
use Rattle.meaning.specs.Run.{for_each, reads_into}
use Rattle.machine.specs.declared.progress.Left.TheVariants.{Halted}
use Rattle.machine.specs.Storage.{place, total}
use Rattle.machine.specs.Stored.{names_in, bounds_here}
use Rattle.machine.specs.Reading.{all_cells}
use Rattle.machine.proofs.Residuals.{residual}
use Rattle.machine.proofs.ActLaws.{Runs-fault, Runs-evaluates}
use Rattle.machine.proofs.ReadLaws.{all_missing, all_here, none_found, cells_count, cell_place, cells_left, cells_more, cells_done}
use Rattle.run77.specs.Moments.{seen}
use Rattle.run77.proofs.moment.Moment.read_all.Goals as goal

pub returns-in_default : goal.returns-in_default
returns-in_default c = λ bytes.
    Runs-fault c.args.line (all_cells c.args.name) _ (λ cs limit. for_each cs (reads_into (fortran77 c.args.width) limit c.args.line)) c.args.input.now (seen c.args.self.now) bytes
    (all_missing c.args.line (names_in c.args.self.now.storage) c.args.self.now.storage.values.items c.args.name (none_found (names_in c.args.self.now.storage) c.args.name c.find.result c.find.ensures c.in_default.not-Some))

pub read_into-requires : goal.read_into-requires
read_into-requires c =
    let v = c.in-Some.variable.now in
    let n : c.elements-count.result ≡ elements_of (bounds_here v) = c.elements-count.ensures ∙ ap elements_of c.dims_of.ensures in
    omega (arith, c.in-Some.ensures.fits, ap total c.loop-k.invariant.0)

pub returns-in_err-read_into : goal.returns-in_err-read_into
returns-in_err-read_into c = λ bytes.
    let v = c.in-Some.variable.now in
    let ds = names_in c.args.self.now.storage in
    let d : Cell = record { name = c.args.name; subscripts = [] } in
    let cs = cells_of c.args.name (bounds_here v) in
    let count : c.elements-count.result ≡ elements_of (bounds_here v) = c.elements-count.ensures ∙ ap elements_of c.dims_of.ensures in
    let all : length cs ≡ elements_of (bounds_here v) = cells_count ds c.args.name v c.in-Some.ensures in
    let at = λ (j : ℕ) (e : Cell) (l : j < length cs). cell_place ds c.args.name v c.in-Some.ensures j e (omega (arith, all)) in
    let cell = get_or cs c.loop-k.k d in
    rw (residual c.from_residual.ensures.1)
    (Runs-evaluates c.args.line (all_cells c.args.name) cs (λ cs limit. for_each cs (reads_into (fortran77 c.args.width) limit c.args.line)) c.args.input.now (seen c.args.self.now) (seen c.read_into.new.self) bytes bytes (Err (Halted c.in_err-read_into.field-0.0)) (all_here c.args.line ds c.args.self.now.storage.values.items c.args.name v c.in-Some.ensures)
    (c.loop-k.invariant.1 cs (all ∙ sym count) at bytes (seen c.read_into.new.self) (Err (Halted c.in_err-read_into.field-0.0))
    (cells_left (fortran77 c.args.width) c.args.line cs c.loop-k.k d (omega (arith, all, count, c.loop-k-test.true)) c.args.input.now (seen c.loop-k.self) (seen c.read_into.new.self) bytes c.in_err-read_into.field-0.0 (c.in_err-read_into.ensures.read cell (ap (λ ds. place ds cell.name cell.subscripts) c.loop-k.invariant.0 ∙ at c.loop-k.k d (omega (arith, all, count, c.loop-k-test.true))) bytes))))

pub loop-k-preserved : goal.loop-k-preserved
loop-k-preserved c = (
  c.read_into.ensures.names ∙ c.loop-k.invariant.0,
  λ cs n at bytes last r h.
      let d : Cell = record { name = c.args.name; subscripts = [] } in
      let cell = get_or cs c.loop-k.k d in
      c.loop-k.invariant.1 cs n at bytes last r
      (cells_more (fortran77 c.args.width) c.args.line cs c.loop-k.k d (omega (arith, n, c.loop-k-test.true)) c.args.input.now (seen c.loop-k.self) (seen c.read_into.new.self) bytes last r (c.in_ok-read_into.ensures.read cell (ap (λ ds. place ds cell.name cell.subscripts) c.loop-k.invariant.0 ∙ at c.loop-k.k d (omega (arith, n, c.loop-k-test.true))) bytes) h),
)

pub returns : goal.returns
returns c = λ bytes.
    let v = c.in-Some.variable.now in
    let ds = names_in c.args.self.now.storage in
    let d : Cell = record { name = c.args.name; subscripts = [] } in
    let cs = cells_of c.args.name (bounds_here v) in
    let count : c.elements-count.result ≡ elements_of (bounds_here v) = c.elements-count.ensures ∙ ap elements_of c.dims_of.ensures in
    let all : length cs ≡ elements_of (bounds_here v) = cells_count ds c.args.name v c.in-Some.ensures in
    let at = λ (j : ℕ) (e : Cell) (l : j < length cs). cell_place ds c.args.name v c.in-Some.ensures j e (omega (arith, all)) in
    (Runs-evaluates c.args.line (all_cells c.args.name) cs (λ cs limit. for_each cs (reads_into (fortran77 c.args.width) limit c.args.line)) c.args.input.now (seen c.args.self.now) (seen c.loop-k.self) bytes bytes (Ok tt) (all_here c.args.line ds c.args.self.now.storage.values.items c.args.name v c.in-Some.ensures)
    (c.loop-k.invariant.1 cs (all ∙ sym count) at bytes (seen c.loop-k.self) (Ok tt) (cells_done (fortran77 c.args.width) c.args.line cs c.loop-k.k c.args.input.now (seen c.loop-k.self) bytes (omega (arith, all, count, c.loop-k-test.false)))))
