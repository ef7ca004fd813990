use Rattle.std.proofs.Common.{◌<◌, length, refl, arith, rules}
use Rattle.tree.specs.View.{subscript_of}
use Rattle.array_form.proofs.holds.FormLaws.{fails}
use Rattle.array_form.specs.Loops.{has_one}
use Rattle.array_form.proofs.LoopLaws.{too_many}
use Rattle.array_form.proofs.loops_in_text.one_each.Goals as goal

pub returns-then-len-gt1 : goal.returns-then-len-gt1
returns-then-len-gt1 c =
    let x = c.sub-item.result in
    let many : 1 < length c.in_ok-here.here = first_of (omega arith, search rules) in
    fails (has_one c.args.loops.now) subscript_of c.as_slice-sub-items.result.now c.args.subs.now c.loop-sub.sub-index x (has_one c.args.loops.now (subscript_of x))
    c.as_slice-sub-items.ensures (omega arith) c.sub-item.is refl (too_many c.args.loops.now c.in_ok-here.here (subscript_of x) c.in_ok-here.ensures many)
