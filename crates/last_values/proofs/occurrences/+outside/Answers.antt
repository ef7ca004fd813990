use Rattle.std.proofs.Common.{◌≡◌, arith, rules}
use Rattle.nest.specs.View.{part_of, branch_of}
use Rattle.nest.proofs.statement_loops.StandingLaws.{finds, finds_none}
use Rattle.last_values.specs.Occurrences as outside
use Rattle.last_values.specs.Arms as arms
use Rattle.last_values.proofs.occurrences.+outside.Goals as goal

pub stands_outside_in_parts-returns-then-stands_outside : goal.stands_outside_in_parts-returns-then-stands_outside
stands_outside_in_parts-returns-then-stands_outside t c =
    let same : c.as_slice-part-items.result.now ≡ c.args.parts.now = first_of (cc, search rules) in
    finds (outside.stands_outside c.args.name) part_of c.as_slice-part-items.result.now c.args.parts.now c.loop-part.part-index c.part-item.result c.stands_outside.result
    same (omega arith) c.part-item.is c.stands_outside.ensures c.if-stands_outside.true

pub stands_outside_in_parts-returns : goal.stands_outside_in_parts-returns
stands_outside_in_parts-returns t c =
    let same : c.as_slice-part-items.result.now ≡ c.args.parts.now = first_of (cc, search rules) in
    finds_none (outside.stands_outside c.args.name) part_of c.as_slice-part-items.result.now c.args.parts.now c.loop-part.part-index same (omega arith) c.loop-part.invariant

pub stands_outside_in_arms-returns-then-stands_outside_in_arm : goal.stands_outside_in_arms-returns-then-stands_outside_in_arm
stands_outside_in_arms-returns-then-stands_outside_in_arm t c =
    let same : c.as_slice-arm-items.result.now ≡ c.args.arms.now = first_of (cc, search rules) in
    finds (arms.stands_outside_in_branch c.args.name) branch_of c.as_slice-arm-items.result.now c.args.arms.now c.loop-arm.arm-index c.arm-item.result c.stands_outside_in_arm.result
    same (omega arith) c.arm-item.is c.stands_outside_in_arm.ensures c.if-stands_outside_in_arm.true

pub stands_outside_in_arms-returns : goal.stands_outside_in_arms-returns
stands_outside_in_arms-returns t c =
    let same : c.as_slice-arm-items.result.now ≡ c.args.arms.now = first_of (cc, search rules) in
    finds_none (arms.stands_outside_in_branch c.args.name) branch_of c.as_slice-arm-items.result.now c.args.arms.now c.loop-arm.arm-index same (omega arith) c.loop-arm.invariant
