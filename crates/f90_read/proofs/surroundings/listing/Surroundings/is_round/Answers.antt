use Rattle.f90_read.proofs.OfSurroundings.ListLaws.{round_then, round_else}
use Rattle.f90_read.proofs.surroundings.listing.Surroundings.is_round.Goals as goal

pub returns-then-is_among : goal.returns-then-is_among
returns-then-is_among c = round_then c.args.lists.now c.args.self.now.variables.now c.args.name c.is_among.result c.is_among.ensures c.if-is_among.true

pub returns-else-is_among : goal.returns-else-is_among
returns-else-is_among c =
    round_else c.args.lists.now c.args.self.now.variables.now c.args.name c.is_among.result c.is_among-else-is_among.result c.is_among.ensures c.if-is_among.false
    c.is_among-else-is_among.ensures
