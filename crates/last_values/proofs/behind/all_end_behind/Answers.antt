use Rattle.std.proofs.Common.{◌≡◌, false, arith, rules}
use Rattle.last_values.specs.Behind as behind
use Rattle.last_values.proofs.LoopLaws.{fails_at}
use Rattle.last_values.proofs.behind.all_end_behind.Goals as goal

pub returns-then-not-branch : goal.returns-then-not-branch
returns-then-not-branch c =
    let r = c.in_ok-may_end_behind.field-0 in
    let f : r ≡ false = first_of (cc, search rules, grind arith) in
    fails_at (behind.may_end_behind c.args.count c.args.variable) c.as_slice-nested-items.result.now c.args.loops.now c.loop-nested.nested-index c.nested-item.result r
    c.as_slice-nested-items.ensures (omega arith) c.nested-item.is c.in_ok-may_end_behind.ensures f
