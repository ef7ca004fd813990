use Rattle.linear_forms.proofs.CanonicalStays.{canonical_text_stays}
use Rattle.linear_forms.proofs.laws.canonical_text_stays.Goals as goal

pub returns : goal.returns
returns c = canonical_text_stays
