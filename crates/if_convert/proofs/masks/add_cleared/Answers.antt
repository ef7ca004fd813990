use Rattle.std.proofs.Common.{◌-◌, ◌++◌, map}
use Rattle.nest.specs.View.{part_of}
use Rattle.if_convert.specs.Masks.{all_parts_of}
use Rattle.if_convert.specs.Points.{cleared}
use Rattle.if_convert.proofs.BodyLaws.{cleared-step}
use Rattle.if_convert.proofs.masks.add_cleared.Goals as goal

pub loop-number-preserved : goal.loop-number-preserved
loop-number-preserved c =
    cleared-step c.args.line c.loop-number.number c.args.end (map part_of c.loop-number.made) (map part_of c.add_set.new.made)
    (map part_of c.args.made.now ++ all_parts_of c.args.line (cleared c.args.first (c.args.end - c.args.first))) c.loop-number-test.true c.loop-number.invariant
    c.in_ok-add_set.ensures
