use Rattle.translation.proofs.PlacedProfile.Placing.{placed_program_is_program}
use Rattle.translation.proofs.placed_profile.placed_program_is_program.Goals as goal

pub returns : goal.returns
returns c = placed_program_is_program
