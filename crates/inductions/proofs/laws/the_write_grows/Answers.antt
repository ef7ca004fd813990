use Rattle.inductions.proofs.GrowthLaws.{the_write_grows}
use Rattle.inductions.proofs.laws.the_write_grows.Goals as goal

pub returns : goal.returns
returns c = the_write_grows
