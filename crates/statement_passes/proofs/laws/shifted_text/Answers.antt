use Rattle.statement_passes.proofs.Forms.{shifted_has_text, shifted_trip_has_text}
use Rattle.statement_passes.proofs.laws.shifted_text.Goals as goal

pub returns-clause-form : goal.returns-clause-form
returns-clause-form c = shifted_has_text

pub returns-clause-trip : goal.returns-clause-trip
returns-clause-trip c = shifted_trip_has_text
