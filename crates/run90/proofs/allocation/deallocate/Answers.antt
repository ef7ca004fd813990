use Rattle.std.proofs.Common.{sym, ap, ◌∙◌, subst, refl, map, Ok, Err}
use Rattle.tree.specs.Plain.{Deallocate}
use Rattle.tree.specs.View.{declaration_of}
use Rattle.meaning.specs.Dialect.{fortran90}
use Rattle.meaning.specs.Store.{stored_bounds}
use Rattle.meaning.specs.Run.{deallocates, does, evaluates}
use Rattle.machine.specs.Acts.{Runs}
use Rattle.machine.specs.Moments.{located, seen_at}
use Rattle.machine.specs.declared.progress.Left.TheVariants.{Halted}
use Rattle.machine.proofs.Residuals.{residual}
use Rattle.machine.proofs.ActLaws.{Runs-counts_step, Runs-cut, Runs-evaluates, Runs-fault}
use Rattle.array_values.specs.storage.Slots.{store_among}
use Rattle.array_values.specs.storage.Stored.{slots_in}
use Rattle.array_expressions.specs.assignments.Moments.{seen, slots_of}
use Rattle.run90.proofs.Allocating.{not_there, gone, Runs-deallocates}
use Rattle.run90.proofs.allocation.deallocate.Goals as goal

pub returns-in_err-count_step : goal.returns-in_err-count_step
returns-in_err-count_step c = λ w input bytes.
    rw (residual c.from_residual.ensures.1)
    (Runs-cut (fortran90 w) (λ limit. evaluates c.args.line (stored_bounds c.args.name) (λ bs. deallocates c.args.name)) input (seen c.args.moment.now) (seen c.count_step.new.self) bytes c.in_err-count_step.field-0.0 c.in_err-count_step.ensures.counted)

pub returns-in_err-at : goal.returns-in_err-at
returns-in_err-at c = λ w input bytes.
    let mid = c.count_step.new.self in
    let x = c.args.name in
    let q = not_there c.args.line x (slots_of mid) (slots_in c.deallocate.new.self) c.deallocate.result c.in_err-at.field-0.0 (sym c.in_err-at.was ∙ c.at.ensures) c.deallocate.ensures.deallocated in
    rw (residual c.from_residual-in_err-at.ensures.1)
    (subst (λ vs. Runs (λ limit. does (fortran90 w) limit (Deallocate c.args.line x)) input (seen c.args.moment.now) bytes (seen_at (map declaration_of mid.decls) (store_among vs) mid.progress) bytes (Err (Halted c.in_err-at.field-0.0))) (sym q.1)
    (Runs-counts_step (fortran90 w) (λ limit. evaluates c.args.line (stored_bounds x) (λ bs. deallocates x)) input (seen c.args.moment.now) (seen mid) (seen mid) bytes bytes (Err (Halted c.in_err-at.field-0.0)) c.in_ok-count_step.ensures.counted
    (Runs-fault c.args.line (stored_bounds x) c.in_err-at.field-0.0 (λ bs limit. deallocates x) input (seen mid) bytes q.0)))

pub returns : goal.returns
returns c = λ w input bytes.
    let mid = c.count_step.new.self in
    let x = c.args.name in
    let q = gone c.args.line x (slots_of mid) (slots_in c.deallocate.new.self) c.deallocate.result _ (sym c.in_ok-at.was ∙ c.at.ensures) c.deallocate.ensures.deallocated in
    let final = seen_at (map declaration_of mid.decls) (store_among (slots_in c.deallocate.new.self)) mid.progress in
    Runs-counts_step (fortran90 w) (λ limit. evaluates c.args.line (stored_bounds x) (λ bs. deallocates x)) input (seen c.args.moment.now) (seen mid) final bytes bytes (Ok tt) c.in_ok-count_step.ensures.counted
    (Runs-evaluates c.args.line (stored_bounds x) q.0.0 (λ bs limit. deallocates x) input (seen mid) final bytes bytes (Ok tt) (sym (ap (located c.args.line) q.0.1))
    (Runs-deallocates x input (seen mid) final bytes refl q.1 refl))
