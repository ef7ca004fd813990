use Rattle.std.proofs.Common.{◌≡◌, subst, None, Ok, rules}
use Rattle.meaning.specs.Sections.{axis_on}
use Rattle.array_values.specs.Counts.{Counts, range_in}
use Rattle.array_values.specs.Selections.{selector_in}
use Rattle.array_values.proofs.Steps.{residual}
use Rattle.array_values.proofs.ExtentCounts.{extent_added, extent_left}
use Rattle.array_values.proofs.counts.push_extent.Goals as goal

pub returns-in_err-count : goal.returns-in_err-count
returns-in_err-count c = rw (residual c.from_residual.ensures.1) c.in_err-count.ensures

pub returns-in_default : goal.returns-in_default
returns-in_default c =
    let q = axis_on (range_in c.args.range) (selector_in c.args.selector.now) in
    let none : c.in_ok-count.field-0 ≡ None = search rules in
    extent_left c.args.extents.now q (subst (λ o. Counts q (Ok o)) none c.in_ok-count.ensures)

pub returns : goal.returns
returns c =
    let q = axis_on (range_in c.args.range) (selector_in c.args.selector.now) in
    extent_added c.args.extents.now c.push.new.self q c.in-Some.count (subst (λ o. Counts q (Ok o)) c.in-Some.is c.in_ok-count.ensures) c.in_ok-push.ensures.ok
