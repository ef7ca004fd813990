use Rattle.std.proofs.Common.{ap, ◌∙◌, map}
use Rattle.meaning.specs.Store.{size_of}
use Rattle.array_values.specs.Counts.{ranges_in}
use Rattle.array_values.proofs.storage.EmptyBounds.{none_of_all}
use Rattle.array_values.proofs.storage.bounds.select_all_of_none.Goals as goal

pub returns : goal.returns
returns c =
    none_of_all (ranges_in c.args.ranges.now.list) (record { extents = c.in_ok-extents.extents; places = c.new-places.result }) c.args.ranges.now.none
    (c.in_ok-extents.ensures ∙ ap (λ rs. map size_of (ranges_in rs)) c.as_slice.ensures) c.new-places.ensures
