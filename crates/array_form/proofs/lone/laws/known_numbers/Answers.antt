use Rattle.array_form.proofs.lone.Known.{numbers_are_known}
use Rattle.array_form.proofs.lone.laws.known_numbers.Goals as goal

pub returns : goal.returns
returns c = numbers_are_known
