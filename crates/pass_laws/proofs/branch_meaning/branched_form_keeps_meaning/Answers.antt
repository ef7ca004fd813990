use Rattle.pass_laws.proofs.BranchMeaning.Meaning.{branched_form_keeps_meaning}
use Rattle.pass_laws.proofs.branch_meaning.branched_form_keeps_meaning.Goals as goal

pub returns : goal.returns
returns c = branched_form_keeps_meaning
