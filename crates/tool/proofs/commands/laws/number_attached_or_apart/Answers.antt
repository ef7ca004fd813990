use Rattle.tool.proofs.commands.WordLaws.{request_of-attached}
use Rattle.tool.proofs.commands.laws.number_attached_or_apart.Goals as goal

pub returns : goal.returns
returns c = request_of-attached
