use Rattle.std.proofs.Common.{map}
use Rattle.array_values.specs.Selections.{selector_in}
use Rattle.array_values.proofs.Steps.{residual}
use Rattle.array_values.specs.storage.Stored.{slots_in}
use Rattle.array_values.specs.storage.Targets.{part_of}
use Rattle.array_values.proofs.storage.TargetLaws.{none_targeted, target_missed, targeted}
use Rattle.array_values.proofs.storage.storage.Storage.target_part.Goals as goal

pub returns-in_default : goal.returns-in_default
returns-in_default c = none_targeted (slots_in c.args.self.now) c.args.name (part_of (map selector_in c.args.selectors.now)) c.in_default.ensures.bounds

pub returns-in_err-selected : goal.returns-in_err-selected
returns-in_err-selected c =
    rw (residual c.from_residual.ensures.1)
    (target_missed (slots_in c.args.self.now) c.args.name (part_of (map selector_in c.args.selectors.now)) c.in-Some.slot c.in-Some.ensures c.index.result.now c.index.ensures c.in_err-selected.field-0.0 c.in_err-selected.ensures)

pub returns : goal.returns
returns c =
    targeted (slots_in c.args.self.now) c.args.name (part_of (map selector_in c.args.selectors.now)) c.in-Some.slot c.in-Some.ensures c.index.result.now c.index.ensures c.in_ok-selected.selected c.in_ok-selected.ensures
