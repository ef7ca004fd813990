use Rattle.split_programs.proofs.SplitProfiles.{split_program_is_of_profile}
use Rattle.split_programs.proofs.profiles.split_program_is_of_profile.Goals as goal

pub returns : goal.returns
returns c = split_program_is_of_profile
