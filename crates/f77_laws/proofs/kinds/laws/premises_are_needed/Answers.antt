use Rattle.f77_laws.proofs.kinds.Apart as apart
use Rattle.f77_laws.proofs.kinds.laws.premises_are_needed.Goals as goal

pub returns-clause-lists : goal.returns-clause-lists
returns-clause-lists c = apart.lists_are_needed

pub returns-clause-spellings : goal.returns-clause-spellings
returns-clause-spellings c = apart.spellings_are_needed

pub returns-clause-counts : goal.returns-clause-counts
returns-clause-counts c = apart.counts_are_needed

pub returns-clause-constants : goal.returns-clause-constants
returns-clause-constants c = apart.constants_are_needed
