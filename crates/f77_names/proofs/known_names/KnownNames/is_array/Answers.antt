use Rattle.f77_names.specs.UsesView.{listed}
use Rattle.f77_names.proofs.known_names.KnownNames.is_array.Goals as goal

pub returns : goal.returns
returns c = c.is_array.ensures.exact (listed c.args.self.now.uses) c.args.self.now.known
