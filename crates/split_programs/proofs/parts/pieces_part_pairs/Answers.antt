use Rattle.split_programs.proofs.CutParts.{pieces_part_pairs}
use Rattle.split_programs.proofs.parts.pieces_part_pairs.Goals as goal

pub returns : goal.returns
returns c = pieces_part_pairs
