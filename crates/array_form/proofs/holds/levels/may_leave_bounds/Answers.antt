use Rattle.std.proofs.Common.{◌-◌, ◌∙◌, List, ap, length, take, drop, ◌&&◌, not, sym}
use Rattle.std.specs.Option.{option_map}
use Rattle.tree.specs.View.{expression_of}
use Rattle.array_form.specs.declared.holds.loops.CountedLoop.{CountedLoop}
use Rattle.array_form.proofs.holds.TripLaws.{rest_is}
use Rattle.array_form.proofs.holds.GuardLaws.{outside_is}
use Rattle.array_form.proofs.holds.levels.may_leave_bounds.Goals as goal

pub returns-then-stand_in_guard : goal.returns-then-stand_in_guard
returns-then-stand_in_guard c =
    let part : List CountedLoop = take (length c.as_slice.result.now - c.args.from) (drop c.args.from c.as_slice.result.now) in
    ap (λ b. b && not c.args.safe) (sym c.if-stand_in_guard.true)
    ∙ outside_is c.args.a.now c.args.from part (option_map expression_of c.args.stmt.now.guard) c.args.safe c.stand_in_guard.result (rest_is c.as_slice.result.now c.args.a.now.loops c.args.from c.as_slice.ensures) c.stand_in_guard.ensures

pub returns-else-stand_in_guard : goal.returns-else-stand_in_guard
returns-else-stand_in_guard c =
    let part : List CountedLoop = take (length c.as_slice.result.now - c.args.from) (drop c.args.from c.as_slice.result.now) in
    c.if-stand_in_guard.false
    ∙ (ap (λ b. b && not c.args.safe) (sym c.if-stand_in_guard.false)
    ∙ outside_is c.args.a.now c.args.from part (option_map expression_of c.args.stmt.now.guard) c.args.safe c.stand_in_guard.result (rest_is c.as_slice.result.now c.args.a.now.loops c.args.from c.as_slice.ensures) c.stand_in_guard.ensures)
