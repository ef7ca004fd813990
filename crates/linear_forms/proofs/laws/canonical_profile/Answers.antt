use Rattle.linear_forms.proofs.CanonicalProfile.{canonising_keeps_profile, canonical_block_keeps_profile}
use Rattle.linear_forms.proofs.laws.canonical_profile.Goals as goal

pub returns : goal.returns
returns c = record { node = canonising_keeps_profile; block = canonical_block_keeps_profile }
