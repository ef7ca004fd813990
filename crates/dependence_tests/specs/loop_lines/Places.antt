-- A loop's place, as a pairing's definitions have it.
use Rattle.subscripts.specs.Classes.{Loop}
use Rattle.subscripts.specs.Classes.Loop.{Shared, First, Second}
use Rattle.dependence_tests.specs.declared.loop_lines.one_loop.LoopPlace.{LoopPlace}
use Rattle.dependence_tests.specs.declared.loop_lines.one_loop.LoopPlace.TheVariants as place

abbrev pub loop_at : LoopPlace → Loop
loop_at (place.Shared k) = Shared k
loop_at (place.First k) = First k
loop_at (place.Second k) = Second k
