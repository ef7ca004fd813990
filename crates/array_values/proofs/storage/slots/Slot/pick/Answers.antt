use Rattle.std.proofs.Common.{map}
use Rattle.array_values.specs.storage.Bounds.{bounds_held}
use Rattle.array_values.specs.Selections.{selector_in}
use Rattle.array_values.specs.storage.array_places.Selecting.{Selects}
use Rattle.array_values.specs.storage.Targets.{part_of}
use Rattle.array_values.proofs.storage.TargetLaws.{none_picked, picked}
use Rattle.array_values.proofs.storage.slots.Slot.pick.Goals as goal

pub returns-then-not-self : goal.returns-then-not-self
returns-then-not-self c = none_picked c.args.self.now (part_of (map selector_in c.args.selectors.now)) c.if-not-self.true

pub returns : goal.returns
returns c =
    let v = c.args.self.now in
    let f = part_of (map selector_in c.args.selectors.now) in
    let h : Selects (bounds_held v.bounds) (f (bounds_held v.bounds)) c.select.result = c.select.ensures in
    picked v f c.select.result c.if-not-self.false h
