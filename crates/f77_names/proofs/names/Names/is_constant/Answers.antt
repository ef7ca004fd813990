use Rattle.std.proofs.Common.{ap, ◌∙◌}
use Rattle.f77_names.specs.declared.names.Facts.{Facts}
use Rattle.f77_names.proofs.FactLaws.{constant_by_names}
use Rattle.f77_names.proofs.names.Names.is_constant.Goals as goal

pub returns-clause-exact : goal.returns-clause-exact
returns-clause-exact c us h = ap (λ (f : Facts). f.constant) c.facts.ensures ∙ constant_by_names c.args.self.now us c.args.name h
