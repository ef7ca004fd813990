use Rattle.std.proofs.Common.{ap, sym, ◌∙◌}
use Rattle.std.specs.Option.{option_map}
use Rattle.nest.specs.View.{nest_of}
use Rattle.listing.proofs.programs.Sources.{masks_there}
use Rattle.listing.proofs.programs.nests.converted.Goals as goal
use Rattle.tree.specs.declared.width.Width.TheVariants.{Wide}

pub unreachable-requires : goal.unreachable-requires
unreachable-requires c =
    masks_there Wide (nest_of c.args.normal.now) c.args.masks c.requires
    (sym c.in_ok-made.ensures.converted ∙ ap (option_map nest_of) c.in-None.is)
