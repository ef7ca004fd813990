use Rattle.reduction_laws.proofs.gathering.Section.{gathering_is_section, gathering_is_plain_section}
use Rattle.reduction_laws.proofs.gathering.gathered_section.Goals as goal

pub returns-clause-tested : goal.returns-clause-tested
returns-clause-tested c = gathering_is_section

pub returns-clause-plain : goal.returns-clause-plain
returns-clause-plain c = gathering_is_plain_section
