use Rattle.std.proofs.Common.{subst, List, map, Ok, Err}
use Rattle.meaning.specs.Sections.{axes_on}
use Rattle.array_values.specs.Counts.{AddsExtents, ranges_in}
use Rattle.array_values.specs.Selections.{selector_in}
use Rattle.array_values.specs.declared.counts.Range.{Range}
use Rattle.array_values.proofs.Steps.{residual}
use Rattle.array_values.proofs.storage.EmptyBounds.{none_failed, none_taken}
use Rattle.array_values.proofs.storage.bounds.select_none.Goals as goal

pub returns-in_err-push_extents : goal.returns-in_err-push_extents
returns-in_err-push_extents c =
    let bs = ranges_in c.args.ranges.now.list in
    let ps = map selector_in c.args.selectors.now in
    let e = c.in_err-push_extents.field-0.0 in
    rw (residual c.from_residual.ensures.1)
    (none_failed bs (axes_on bs ps) c.new-extents.result c.push_extents.new.extents e
    (subst (λ (rs : List Range). AddsExtents c.new-extents.result c.push_extents.new.extents (axes_on (ranges_in rs) ps) (Err e)) c.as_slice.ensures
    c.in_err-push_extents.ensures))

pub returns : goal.returns
returns c =
    let bs = ranges_in c.args.ranges.now.list in
    let ps = map selector_in c.args.selectors.now in
    let t = c.args.ranges.now in
    none_taken bs ps c.new-extents.result (record { extents = c.push_extents.new.extents; places = c.new-places.result }) t.none c.new-extents.ensures c.new-places.ensures
    (subst (λ (rs : List Range). AddsExtents c.new-extents.result c.push_extents.new.extents (axes_on (ranges_in rs) ps) (Ok tt)) c.as_slice.ensures
    c.in_ok-push_extents.ensures)
