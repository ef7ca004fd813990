use Rattle.std.proofs.Common.{sym, ◌∙◌}
use Rattle.array_values.proofs.Steps.{residual}
use Rattle.array_values.proofs.ExtentCounts.{many_left, none_left, few_left, failed_read, more_read}
use Rattle.array_values.proofs.counts.+push_extents.Goals as goal

pub returns-then-not-is_empty : goal.returns-then-not-is_empty
returns-then-not-is_empty t c = many_left c.args.ranges.now c.args.selectors.now c.in_default.ensures.cases (sym c.is_empty.ensures ∙ c.if-not-is_empty.true)

pub returns-in_default : goal.returns-in_default
returns-in_default t c =
    none_left c.args.ranges.now c.args.selectors.now c.args.extents.now c.in_default.ensures.cases (sym c.is_empty.ensures ∙ c.if-not-is_empty.false)

pub returns-in_default-split_first : goal.returns-in_default-split_first
returns-in_default-split_first t c =
    few_left c.args.ranges.now c.in-Some.inner.now c.in-Some.range.now c.args.selectors.now c.in-Some.ensures.cases.0 c.in_default-split_first.ensures.cases

pub returns-in_err-push_extent : goal.returns-in_err-push_extent
returns-in_err-push_extent t c =
    rw (residual c.from_residual.ensures.1)
    (failed_read c.args.ranges.now c.in-Some.inner.now c.in-Some.range.now c.args.selectors.now c.in-Some-split_first.more.now c.in-Some-split_first.selector.now
    c.in-Some.ensures.cases.0 c.in-Some-split_first.ensures.cases.0 c.args.extents.now c.push_extent.new.extents c.push_extent.new.extents
    c.in_err-push_extent.field-0.0 c.in_err-push_extent.ensures)

pub returns : goal.returns
returns t c =
    more_read c.args.ranges.now c.in-Some.inner.now c.in-Some.range.now c.args.selectors.now c.in-Some-split_first.more.now c.in-Some-split_first.selector.now
    c.in-Some.ensures.cases.0 c.in-Some-split_first.ensures.cases.0 c.args.extents.now c.push_extent.new.extents c.push_extents.new.extents
    c.push_extents.result c.in_ok-push_extent.ensures c.push_extents.ensures
