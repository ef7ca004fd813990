use Rattle.reduction_laws.proofs.gathering.Law.{gathering_is_form, gathering_is_plain_form}
use Rattle.reduction_laws.proofs.gathering.gathered_list.Goals as goal

pub returns-clause-tested : goal.returns-clause-tested
returns-clause-tested c = gathering_is_form

pub returns-clause-plain : goal.returns-clause-plain
returns-clause-plain c = gathering_is_plain_form
