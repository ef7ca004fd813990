use Rattle.f77_names.specs.UsesView.{listed}
use Rattle.f77_names.proofs.known_names.KnownNames.kind.Goals as goal

pub returns : goal.returns
returns c = c.kind.ensures.exact (listed c.args.self.now.uses) c.args.self.now.known
