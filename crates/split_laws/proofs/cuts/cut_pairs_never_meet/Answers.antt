use Rattle.split_laws.proofs.CutPairs.{never_meet}
use Rattle.split_laws.proofs.cuts.cut_pairs_never_meet.Goals as goal

pub returns : goal.returns
returns c = never_meet
