use Rattle.f90_blocks.proofs.places.RisingLaws.{statements_rise, places_rise}
use Rattle.f90_blocks.proofs.places.statements_rise.Goals as goal

pub returns-clause-free : goal.returns-clause-free
returns-clause-free c = statements_rise

pub returns-clause-placed : goal.returns-clause-placed
returns-clause-placed c = places_rise
