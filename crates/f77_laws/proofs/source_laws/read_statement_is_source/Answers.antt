use Rattle.f77_laws.proofs.Forms as forms
use Rattle.f77_laws.proofs.source_laws.read_statement_is_source.Goals as goal

pub returns : goal.returns
returns c = forms.read_statement_is_source
