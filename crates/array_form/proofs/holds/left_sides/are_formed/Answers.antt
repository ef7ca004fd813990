use Rattle.std.proofs.Common.{◌≡◌, false, arith, rules}
use Rattle.tree.specs.View.{subscript_of}
use Rattle.array_form.specs.holds.Levels.{is_formed, loops_from_place}
use Rattle.array_form.specs.holds.View.{surroundings_view}
use Rattle.array_form.proofs.holds.FormLaws.{fails}
use Rattle.array_form.proofs.holds.left_sides.are_formed.Goals as goal

pub returns-then-not-branch : goal.returns-then-not-branch
returns-then-not-branch c =
    let r = c.in_ok-is_formed.field-0 in
    let f : r ≡ false = first_of (cc, search rules, grind arith) in
    fails (is_formed (surroundings_view c.args.a.now) (loops_from_place c.args.a.now c.args.from)) subscript_of c.as_slice-sub-items.result.now c.args.subs.now c.loop-sub.sub-index c.sub-item.result r
    c.as_slice-sub-items.ensures (omega arith) c.sub-item.is c.in_ok-is_formed.ensures f
