-- What is seen of the moments of a FORTRAN 77 program's run.
use Rattle.machine.specs.Moments.{Seen, seen_at}
use Rattle.machine.specs.Stored.{names_in, store_in}
use Rattle.run77.specs.declared.moment.Moment.{Moment}

abbrev pub seen : Moment → Seen
seen m = seen_at (names_in m.storage) (store_in m.storage) m.progress
