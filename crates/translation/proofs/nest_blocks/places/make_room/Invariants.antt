-- There is room for those up to the counter.
use Rattle.translation.specs.nest_blocks.Places.{HasRoom}
use Rattle.translation.proofs.nest_blocks.places.make_room.Given as goal

abbrev pub invariant-loop : goal.invariant-loop
invariant-loop l = HasRoom l.counter l.fn.blocks.items l.blocks.items
