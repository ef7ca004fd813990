use Rattle.array_values.specs.Arrays.{array_in}
use Rattle.array_values.proofs.Steps.{same}
use Rattle.array_values.specs.storage.Stored.{slots_in}
use Rattle.array_values.proofs.storage.PartLaws.{whole_named, whole_unknown}
use Rattle.array_values.proofs.storage.storage.Storage.whole.Goals as goal

pub returns-in-None : goal.returns-in-None
returns-in-None c = whole_unknown (slots_in c.args.self.now) c.args.name c.in-None.ensures.bounds

pub returns-in-Some : goal.returns-in-Some
returns-in-Some c =
    same array_in _ _ c.whole.result
    (whole_named (slots_in c.args.self.now) c.args.name c.index.result.now c.in-Some.slot (c.in-Some.ensures.named c.index.result.now c.index.ensures))
    c.whole.ensures
