use Rattle.array_values.specs.storage.Bounds.{bounds_held}
use Rattle.meaning.specs.Sections.{whole_axes}
use Rattle.array_values.specs.storage.array_places.Selecting.{IsSelection}
use Rattle.array_values.specs.storage.Targets.{all_of}
use Rattle.array_values.proofs.storage.TargetLaws.{none_picked, picked_all}
use Rattle.array_values.proofs.storage.slots.Slot.pick_all.Goals as goal

pub returns-then-not-self : goal.returns-then-not-self
returns-then-not-self c = none_picked c.args.self.now all_of c.if-not-self.true

pub returns : goal.returns
returns c =
    let v = c.args.self.now in
    let h : IsSelection (bounds_held v.bounds) (whole_axes (bounds_held v.bounds)) c.in-Ok.selected = c.in-Ok.ensures in
    picked_all v c.in-Ok.selected c.if-not-self.false h
