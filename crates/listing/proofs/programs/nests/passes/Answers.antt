use Rattle.std.proofs.Common.{ap, sym, ◌∙◌}
use Rattle.std.specs.Option.{option_map}
use Rattle.nest.specs.View.{nest_of}
use Rattle.listing.proofs.programs.Sources.{few_of_source, normal_there}
use Rattle.listing.proofs.programs.nests.passes.Goals as goal
use Rattle.tree.specs.declared.width.Width.TheVariants.{Wide}

pub normalise-requires : goal.normalise-requires
normalise-requires c = few_of_source Wide (nest_of c.args.found.now) c.requires

pub unreachable-requires : goal.unreachable-requires
unreachable-requires c =
    normal_there Wide (nest_of c.args.found.now) c.requires (sym c.in_ok-normal.ensures ∙ ap (option_map nest_of) c.in-None.is)

pub from_normal-requires-clause-made : goal.from_normal-requires-clause-made
from_normal-requires-clause-made c = sym c.in_ok-normal.ensures ∙ ap (option_map nest_of) c.in-Some.is
