use Rattle.std.proofs.Common.{◌∙◌, arith}
use Rattle.std.specs.Prelude.{All, ◌<◌, length}
use mathlib.Core.Path.{ap₂}
use Rattle.meaning.specs.Sections.{whole_axes}
use Rattle.array_values.specs.storage.Bounds.{bounds_held}
use Rattle.array_values.specs.storage.array_places.Places.{values_there}
use Rattle.array_values.specs.storage.array_places.Selecting.{IsSelection}
use Rattle.array_values.proofs.storage.PartLaws.{whole_is}
use Rattle.array_values.proofs.storage.slots.Slot.whole.Goals as goal

pub returns : goal.returns
returns c =
    let v = c.args.self.now in
    let t = c.in-Ok.field-0 in
    let h : IsSelection (bounds_held v.bounds) (whole_axes (bounds_held v.bounds)) t = c.in-Ok.ensures in
    let f = v.filled in
    let o = v.values.ok.0 in
    let within : All (λ k. k < length v.values.items) t.places = λ k d l. omega (arith, h.within k d l) in
    whole_is v t c.in_ok-values.values c.if-not-self.false h within
    (c.in_ok-values.ensures ∙ ap₂ values_there c.deref.ensures.value c.as_slice.ensures)
