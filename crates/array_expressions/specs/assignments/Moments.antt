-- What is seen of the moments of a Fortran 90 program's run.
use Rattle.std.specs.Prelude.{List, map}
use Rattle.tree.specs.View.{declaration_of}
use Rattle.machine.specs.Moments.{Seen, seen_at}
use Rattle.array_values.specs.declared.storage.slots.Slot.{Slot}
use Rattle.array_values.specs.storage.Stored.{slots_in, store_in}
use Rattle.array_expressions.specs.declared.assignments.moment.Moment.{Moment}

abbrev pub seen : Moment → Seen
seen m = seen_at (map declaration_of m.decls) (store_in m.storage) m.progress

abbrev pub slots_of : Moment → List Slot
slots_of m = slots_in m.storage
