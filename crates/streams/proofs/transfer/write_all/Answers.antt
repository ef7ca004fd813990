use Rattle.streams.proofs.Chained.{part_front}
use Rattle.streams.proofs.transfer.write_all.Goals as goal

pub returns-then-give_front-text-clause-part : goal.returns-then-give_front-text-clause-part
returns-then-give_front-text-clause-part g c =
    part_front _ _ c.args.text.now c.give_front.result c.give_front.ensures.front
