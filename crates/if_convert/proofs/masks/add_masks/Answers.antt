use Rattle.std.proofs.Common.{◌-◌, ◌++◌, map}
use Rattle.nest.specs.View.{made_of}
use Rattle.if_convert.specs.Masks.{masks_from}
use Rattle.if_convert.proofs.BodyLaws.{masks-step, pushed_mask}
use Rattle.if_convert.proofs.masks.add_masks.Goals as goal

pub loop-number-preserved : goal.loop-number-preserved
loop-number-preserved c =
    masks-step c.loop-number.number c.args.end (map made_of c.loop-number.made) (map made_of c.push.new.self)
    (map made_of c.args.made.now ++ masks_from c.args.first (c.args.end - c.args.first)) c.loop-number-test.true c.loop-number.invariant
    (pushed_mask c.loop-number.number c.loop-number.made c.push.new.self c.in_ok-mask_name.field-0 c.new.result c.in_ok-mask_name.ensures c.new.ensures c.in_ok-push.ensures.ok)
