use Rattle.nest_order.proofs.runs.OneByOne.{instances_come_from_reads}
use Rattle.nest_order.proofs.runs.instances_one_by_one.Goals as goal

pub returns : goal.returns
returns c = instances_come_from_reads
