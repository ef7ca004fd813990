use Rattle.tool.proofs.commands.WordLaws.{length-request}
use Rattle.tool.proofs.commands.laws.at_most_five_words.Goals as goal

pub returns : goal.returns
returns c = length-request
