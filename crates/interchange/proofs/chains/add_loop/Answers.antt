use Rattle.std.proofs.Common.{ap}
use Rattle.std.specs.Option.{option_copied}
use Rattle.interchange.proofs.ListLaws.{copied_is, order_found, order_none}
use Rattle.interchange.proofs.chains.add_loop.Goals as goal

pub returns-in_default : goal.returns-in_default
returns-in_default c =
    order_none c.args.loops.now c.args.new.now c.args.place (option_copied c.get.result) (copied_is c.args.loops.now c.args.place c.get.result c.get.ensures.lookup.3) (ap option_copied c.in_default.is)

pub returns : goal.returns
returns c =
    order_found c.args.loops.now c.args.new.now c.push.new.self c.args.place c.in-Some.turns.now c.in_ok-copy.field-0 (option_copied c.get.result)
    (copied_is c.args.loops.now c.args.place c.get.result c.get.ensures.lookup.3) (ap option_copied c.in-Some.is) c.in_ok-copy.ensures c.in_ok-push.ensures.ok
