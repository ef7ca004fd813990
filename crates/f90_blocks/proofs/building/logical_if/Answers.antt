use Rattle.f90_blocks.specs.Rests.{done_seen}
use Rattle.f90_blocks.proofs.RestLaws.{test_is}
use Rattle.f90_blocks.proofs.building.logical_if.Goals as goal

pub returns : goal.returns
returns c =
    test_is c.args.line c.args.test (done_seen c.args.done) c.in_ok-body.body c.in_ok-other.other c.new-arms.result
    c.push.new.self c.in_ok-body.ensures c.new-arms.ensures
    c.in_ok-push.ensures.ok c.in_ok-other.ensures
