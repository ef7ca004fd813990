use Rattle.std.proofs.Common.{◌≡◌, ◌++◌, ◌+◌, arith, rules}
use Rattle.std.proofs.lemmas.Grind.{common_steps}
use Rattle.std.specs.Option.{option_map}
use Rattle.tree.specs.View.{expression_of, reference_of}
use Rattle.array_form.specs.holds.Holds.{hold_with}
use Rattle.array_form.specs.holds.View.{surroundings_view}
use Rattle.array_form.proofs.holds.HoldLaws.{level_more}
use Rattle.array_form.proofs.holds.levels.holds_in.Goals as goal

pub loop-from-preserved : goal.loop-from-preserved
loop-from-preserved c =
    let now : c.note.new.holds ≡ c.loop-from.all ++ hold_with c.args.s (c.loop-from.from + 1) c.in_ok-reason.reason = first_of (cc, search rules, grind (arith, common_steps)) in
    level_more c.args.s (surroundings_view c.args.a.now) (option_map expression_of c.args.stmt.now.guard) (reference_of c.args.stmt.now.left) c.args.safe c.loop-from.from c.loop-from.all c.note.new.holds c.in_ok-reason.reason
    c.loop-from.invariant now c.in_ok-reason.ensures
