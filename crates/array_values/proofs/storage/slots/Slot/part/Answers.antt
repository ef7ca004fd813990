use Rattle.std.proofs.Common.{◌∙◌, map, arith}
use Rattle.std.specs.Prelude.{All, ◌<◌, length}
use mathlib.Core.Path.{ap₂}
use Rattle.meaning.specs.Sections.{axes_on}
use Rattle.array_values.specs.storage.Bounds.{bounds_held}
use Rattle.array_values.specs.Selections.{selector_in}
use Rattle.array_values.specs.storage.array_places.Places.{values_there}
use Rattle.array_values.specs.storage.array_places.Selecting.{SelectsThese}
use Rattle.array_values.proofs.storage.PartLaws.{part_is}
use Rattle.array_values.proofs.storage.slots.Slot.part.Goals as goal

pub returns : goal.returns
returns c =
    let v = c.args.self.now in
    let zs = map selector_in c.args.selectors.now in
    let t = c.in_ok-extents.field-0 in
    let h : SelectsThese (bounds_held v.bounds) (axes_on (bounds_held v.bounds) zs) t = c.in_ok-extents.ensures in
    let f = v.filled in
    let o = v.values.ok.0 in
    let within : All (λ k. k < length v.values.items) t.places = λ k d l. omega (arith, h.selected.within k d l) in
    part_is v zs t c.in_ok-values.values c.if-not-self.false h within
    (c.in_ok-values.ensures ∙ ap₂ values_there c.deref.ensures.value c.as_slice.ensures)
