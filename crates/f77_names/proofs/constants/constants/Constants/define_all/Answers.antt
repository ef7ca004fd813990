use Rattle.std.proofs.Common.{◌∙◌}
use Rattle.f77_names.specs.constants.Constants.{store_of}
use Rattle.f77_names.proofs.constants.StoreLaws.{constants_more}
use Rattle.f77_names.proofs.constants.constants.Constants.define_all.Goals as goal

pub loop-constant-preserved : goal.loop-constant-preserved
loop-constant-preserved c = (
  constants_more c.args.self.now.width c.loop-constant.self.width c.args.constants.now c.loop-constant.constant-index c.constant-item.result (store_of c.loop-constant.self) (store_of c.define.new.self) _
      c.loop-constant-test.true c.constant-item.is c.loop-constant.invariant.1 c.in_ok-define.ensures.values c.loop-constant.invariant.0,
  c.in_ok-define.ensures.width ∙ c.loop-constant.invariant.1,
)
