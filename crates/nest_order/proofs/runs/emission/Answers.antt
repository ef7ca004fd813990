use Rattle.nest_order.proofs.runs.Translating.{emission_keeps_meaning, translation_keeps_meaning}
use Rattle.nest_order.proofs.runs.emission.Goals as goal

pub returns-clause-loops : goal.returns-clause-loops
returns-clause-loops c = emission_keeps_meaning

pub returns-clause-forms : goal.returns-clause-forms
returns-clause-forms c = translation_keeps_meaning
