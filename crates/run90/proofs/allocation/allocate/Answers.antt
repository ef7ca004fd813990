use Rattle.std.proofs.Common.{◌≡◌, sym, ap, ◌∙◌, subst, refl, ℤ, List, map, Ok, Err}
use Rattle.tree.specs.Operators.{as_numbers}
use Rattle.tree.specs.Steps.{◌>>=◌}
use Rattle.tree.specs.Plain.{Allocate, expressions}
use Rattle.tree.specs.View.{expression_of, declaration_of}
use Rattle.tree.specs.declared.ops.Value.{Value}
use Rattle.meaning.specs.ArrayStatements.{allocated_bounds, free}
use Rattle.meaning.specs.Dialect.{fortran90}
use Rattle.meaning.specs.Value.{values_of}
use Rattle.meaning.specs.Run.{allocates, does, evaluates}
use Rattle.machine.specs.Acts.{Runs}
use Rattle.machine.specs.Moments.{located, seen_at}
use Rattle.machine.proofs.Residuals.{residual}
use Rattle.machine.proofs.ActLaws.{Runs-counts_step, Runs-cut, Runs-evaluates}
use Rattle.array_values.specs.Counts.{ranges_in}
use Rattle.array_values.specs.declared.storage.storage.Storage.{Storage}
use Rattle.array_values.specs.storage.Allocation.{HoldsKind}
use Rattle.array_values.specs.storage.Bounds.{from_one}
use Rattle.array_values.specs.storage.Slots.{kind_among, store_among}
use Rattle.array_values.specs.storage.Stored.{slots_in, store_in}
use Rattle.array_expressions.specs.assignments.Causes.{AnswersAt, left_by}
use Rattle.array_expressions.specs.assignments.Moments.{seen, slots_of}
use Rattle.array_expressions.proofs.assignments.Lacking.{asked, asked_of}
use Rattle.run90.proofs.Going.{first_stuck, second_stuck}
use Rattle.run90.proofs.Allocating.{allocate_stuck, unlisted, refused, granted, Runs-allocates}
use Rattle.run90.proofs.allocation.allocate.Goals as goal

pub returns-in_err-count_step : goal.returns-in_err-count_step
returns-in_err-count_step c = λ k kind holds input bytes.
    let es = expressions (map expression_of c.args.extents.now) in
    rw (residual c.from_residual.ensures.1)
    (Runs-cut (fortran90 c.args.width) (λ limit. evaluates c.args.line (allocated_bounds (fortran90 c.args.width) c.args.name es) (λ bs. allocates c.args.name bs)) input (seen c.args.moment.now) (seen c.count_step.new.self) bytes c.in_err-count_step.field-0.0 c.in_err-count_step.ensures.counted)

pub returns-in_err-values : goal.returns-in_err-values
returns-in_err-values c = λ k kind holds input bytes.
    let es = expressions (map expression_of c.args.extents.now) in
    let mid = c.count_step.new.self in
    let s = store_in mid.storage in
    rw (residual c.from_residual-in_err-values.ensures.1)
    (allocate_stuck c.args.width c.args.line c.args.name es input (seen c.args.moment.now) (seen mid) bytes c.in_err-values.field-0.0 c.in_ok-count_step.ensures.counted
    (first_stuck c.args.line (λ (vs : List Value). vs) (λ (bs : List (ℤ × ℤ)). bs) (values_of (fortran90 c.args.width) es s) (λ vs. do ns ← as_numbers vs; free (s.bounds c.args.name) ns) c.in_err-values.field-0.0
    (asked_of c.args.line (λ (vs : List Value). vs) (values_of (fortran90 c.args.width) es) c.values.result _ c.scope.result.storage.now mid.storage c.scope.ensures (sym c.in_err-values.was ∙ c.at.ensures) c.values.ensures)))

pub returns-in_err-numbers : goal.returns-in_err-numbers
returns-in_err-numbers c = λ k kind holds input bytes.
    let es = expressions (map expression_of c.args.extents.now) in
    let mid = c.count_step.new.self in
    let s = store_in mid.storage in
    let values = asked_of c.args.line (λ (vs : List Value). vs) (values_of (fortran90 c.args.width) es) c.values.result _ c.scope.result.storage.now mid.storage c.scope.ensures (sym c.in_ok-values.was ∙ c.at.ensures) c.values.ensures in
    rw (residual c.from_residual-in_err-numbers.ensures.1)
    (allocate_stuck c.args.width c.args.line c.args.name es input (seen c.args.moment.now) (seen mid) bytes c.in_err-numbers.field-0.0 c.in_ok-count_step.ensures.counted
    (second_stuck c.args.line (λ (bs : List (ℤ × ℤ)). bs) (values_of (fortran90 c.args.width) es s) (λ vs. do ns ← as_numbers vs; free (s.bounds c.args.name) ns) c.in_ok-values.values c.in_err-numbers.field-0.0 values
    (first_stuck c.args.line (λ (ns : List ℤ). ns) (λ (bs : List (ℤ × ℤ)). bs) (as_numbers c.in_ok-values.values) (free (s.bounds c.args.name)) c.in_err-numbers.field-0.0
    (asked c.args.line (λ (ns : List ℤ). ns) (as_numbers c.in_ok-values.values) c.all_numbers.result _ (sym c.in_err-numbers.was ∙ c.at-2.ensures) c.all_numbers.ensures))))

pub returns-in_err-ranges : goal.returns-in_err-ranges
returns-in_err-ranges c = λ k kind holds input bytes.
    let es = expressions (map expression_of c.args.extents.now) in
    let mid = c.count_step.new.self in
    let bs = from_one c.as_slice.result.now in
    rw (residual c.from_residual-in_err-ranges.ensures.1)
    (allocate_stuck c.args.width c.args.line c.args.name es input (seen c.args.moment.now) (seen mid) bytes c.in_err-ranges.field-0.0 c.in_ok-count_step.ensures.counted
    (unlisted c.args.line bs c.in_err-ranges.field-0.0 (allocated_bounds (fortran90 c.args.width) c.args.name es (store_in mid.storage))
    (asked c.args.line ranges_in (Ok bs) c.ranges_from_one.result _ (sym c.in_err-ranges.was ∙ c.at-3.ensures) c.ranges_from_one.ensures)))

pub returns-in_err-at : goal.returns-in_err-at
returns-in_err-at c = λ k kind holds input bytes.
    let es = expressions (map expression_of c.args.extents.now) in
    let mid = c.count_step.new.self in
    let s = store_in mid.storage in
    let x = c.args.name in
    let values = asked_of c.args.line (λ (vs : List Value). vs) (values_of (fortran90 c.args.width) es) c.values.result _ c.scope.result.storage.now mid.storage c.scope.ensures (sym c.in_ok-values.was ∙ c.at.ensures) c.values.ensures in
    let numbers = asked c.args.line (λ (ns : List ℤ). ns) (as_numbers c.in_ok-values.values) c.all_numbers.result _ (sym c.in_ok-numbers.was ∙ c.at-2.ensures) c.all_numbers.ensures in
    let here = ap (λ (st : Storage). kind_among (slots_in st) x) c.count_step.ensures.storage ∙ kind in
    let ns = c.as_slice.result.now in
    let list = asked c.args.line ranges_in (Ok (from_one ns)) c.ranges_from_one.result _ (sym c.in_ok-ranges.was ∙ c.at-3.ensures) c.ranges_from_one.ensures in
    let listed : ranges_in c.in_ok-ranges.ranges ≡ from_one ns = cc in
    let q = refused c.args.line x (slots_of mid) (slots_in c.allocate.new.self) k ns c.allocate.result c.in_err-at.field-0.0 (sym c.in_err-at.was ∙ c.at-4.ensures) (c.allocate.ensures.allocated k ns here listed) in
    rw (residual c.from_residual-in_err-at.ensures.1)
    (subst (λ vs. Runs (λ limit. does (fortran90 c.args.width) limit (Allocate c.args.line x es)) input (seen c.args.moment.now) bytes (seen_at (map declaration_of mid.decls) (store_among vs) mid.progress) bytes (Err (left_by c.in_err-at.field-0.0))) (sym q.1)
    (allocate_stuck c.args.width c.args.line x es input (seen c.args.moment.now) (seen mid) bytes c.in_err-at.field-0.0 c.in_ok-count_step.ensures.counted
    (second_stuck c.args.line (λ (bs : List (ℤ × ℤ)). bs) (values_of (fortran90 c.args.width) es s) (λ vs. do ns ← as_numbers vs; free (s.bounds x) ns) c.in_ok-values.values c.in_err-at.field-0.0 values
    (second_stuck c.args.line (λ (bs : List (ℤ × ℤ)). bs) (as_numbers c.in_ok-values.values) (free (s.bounds x)) c.in_ok-numbers.numbers c.in_err-at.field-0.0 numbers
    (subst (λ ns. AnswersAt c.args.line (λ (bs : List (ℤ × ℤ)). bs) (free (s.bounds x) ns) (Err c.in_err-at.field-0.0)) c.as_slice.ensures q.0)))))

pub returns : goal.returns
returns c = λ k kind holds input bytes.
    let es = expressions (map expression_of c.args.extents.now) in
    let mid = c.count_step.new.self in
    let s = store_in mid.storage in
    let x = c.args.name in
    let ns = c.as_slice.result.now in
    let values = asked_of c.args.line (λ (vs : List Value). vs) (values_of (fortran90 c.args.width) es) c.values.result _ c.scope.result.storage.now mid.storage c.scope.ensures (sym c.in_ok-values.was ∙ c.at.ensures) c.values.ensures in
    let numbers = asked c.args.line (λ (ns : List ℤ). ns) (as_numbers c.in_ok-values.values) c.all_numbers.result _ (sym c.in_ok-numbers.was ∙ c.at-2.ensures) c.all_numbers.ensures in
    let here = ap (λ (st : Storage). kind_among (slots_in st) x) c.count_step.ensures.storage ∙ kind in
    let list = asked c.args.line ranges_in (Ok (from_one ns)) c.ranges_from_one.result _ (sym c.in_ok-ranges.was ∙ c.at-3.ensures) c.ranges_from_one.ensures in
    let listed : ranges_in c.in_ok-ranges.ranges ≡ from_one ns = cc in
    let q = granted c.args.line x (slots_of mid) (slots_in c.allocate.new.self) k ns c.allocate.result _ (sym c.in_ok-at.was ∙ c.at-4.ensures) (c.allocate.ensures.allocated k ns here listed) in
    let final = seen_at (map declaration_of mid.decls) (store_among (slots_in c.allocate.new.self)) mid.progress in
    let bounds : allocated_bounds (fortran90 c.args.width) x es s ≡ Ok (from_one ns) =
    ap (λ q. q >>= λ vs. (do ns ← as_numbers vs; free (s.bounds x) ns)) values ∙ ap (λ q. q >>= free (s.bounds x)) (numbers ∙ ap (λ ns. Ok ns) (sym c.as_slice.ensures)) ∙ q.0 in
    Runs-counts_step (fortran90 c.args.width) (λ limit. evaluates c.args.line (allocated_bounds (fortran90 c.args.width) x es) (λ bs. allocates x bs)) input (seen c.args.moment.now) (seen mid) final bytes bytes (Ok tt) c.in_ok-count_step.ensures.counted
    (Runs-evaluates c.args.line (allocated_bounds (fortran90 c.args.width) x es) (from_one ns) (λ bs limit. allocates x bs) input (seen mid) final bytes bytes (Ok tt) (sym (ap (located c.args.line) bounds))
    (Runs-allocates x (from_one ns) input (seen mid) final bytes refl (q.1 (subst (λ (st : Storage). HoldsKind k x (slots_in st)) (sym c.count_step.ensures.storage) holds)) refl))
