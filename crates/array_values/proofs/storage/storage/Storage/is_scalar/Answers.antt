use Rattle.std.proofs.Common.{◌∙◌}
use Rattle.array_values.specs.storage.Stored.{slots_in}
use Rattle.array_values.proofs.storage.PartLaws.{scalar_named, scalar_unknown}
use Rattle.array_values.proofs.storage.storage.Storage.is_scalar.Goals as goal

pub returns-in-None : goal.returns-in-None
returns-in-None c = scalar_unknown (slots_in c.args.self.now) c.args.name c.in-None.ensures.bounds

pub returns-in-Some : goal.returns-in-Some
returns-in-Some c =
    c.is_scalar.ensures
    ∙ scalar_named (slots_in c.args.self.now) c.args.name c.index.result.now c.in-Some.slot (c.in-Some.ensures.named c.index.result.now c.index.ensures)
