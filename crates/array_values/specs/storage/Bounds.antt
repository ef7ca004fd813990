-- The bounds of names.
use Rattle.std.specs.Prelude.{ℤ, pos, List, map}
use Rattle.machine.specs.Storage.{bounds_list}
use Rattle.array_values.specs.Counts.{ranges_in}
use Rattle.array_values.specs.declared.storage.bounds.Bounds.{Bounds}
use Rattle.array_values.specs.declared.storage.bounds.Bounds.TheVariants.{Filled, Empty}

abbrev pub bounds_held : Bounds → List (ℤ × ℤ)
bounds_held (Filled ds) = bounds_list ds
bounds_held (Empty rs) = ranges_in rs.list

-- the bounds of dimensions with these extents, each from 1
abbrev pub from_one : List ℤ → List (ℤ × ℤ)
from_one ns = map (λ n. (pos 1, n)) ns
