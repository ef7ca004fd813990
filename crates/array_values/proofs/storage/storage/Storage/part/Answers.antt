use Rattle.std.proofs.Common.{map}
use Rattle.array_values.specs.Selections.{selector_in}
use Rattle.array_values.specs.Arrays.{array_in}
use Rattle.array_values.proofs.Steps.{same}
use Rattle.array_values.specs.storage.Stored.{slots_in}
use Rattle.array_values.proofs.storage.PartLaws.{part_named, part_unknown}
use Rattle.array_values.proofs.storage.storage.Storage.part.Goals as goal

pub returns-in-None : goal.returns-in-None
returns-in-None c = part_unknown (slots_in c.args.self.now) c.args.name (map selector_in c.args.selectors.now) c.in-None.ensures.bounds

pub returns-in-Some : goal.returns-in-Some
returns-in-Some c =
    same array_in _ _ c.part.result
    (part_named (slots_in c.args.self.now) c.args.name c.index.result.now c.in-Some.slot (map selector_in c.args.selectors.now) (c.in-Some.ensures.named c.index.result.now c.index.ensures))
    c.part.ensures
