-- The array meaning of a program of Fortran 90 (ISO/IEC 1539:1991, sections 7, 8 and 9): the run of its tree.
use Rattle.std.specs.Prelude.{None, ℕ, List}
use Rattle.tree.specs.Plain.{Program}
use Rattle.tree.specs.declared.width.Width.{Width}
use Rattle.meaning.specs.Run.{State, run}
use Rattle.meaning.specs.Dialect.{fortran90}

abbrev pub array_run : Width → Program → List ℕ → State
array_run w q input = run (fortran90 w) None q input
