use Rattle.std.proofs.Common.{◌∙◌}
use Rattle.f90_read.proofs.OfSurroundings.ListLaws.{name_told}
use Rattle.f90_read.proofs.surroundings.listing.stored_name.Goals as goal

pub returns-in-Some : goal.returns-in-Some
returns-in-Some c p m =
    c.name_in_node.ensures
    ∙ name_told c.as_slice.result.now c.args.variable.now.nodes _ c.in-Some.part.now p c.as_slice.ensures c.in-Some.ensures.cases.0 m.nodes
