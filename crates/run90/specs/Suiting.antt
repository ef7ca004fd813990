-- The moments of the run of a program that is typed.
use Rattle.std.specs.Prelude.{◌≡◌}
use Rattle.tree.specs.Plain.{Program}
use Rattle.meaning.specs.Dialect.{fortran90}
use Rattle.tree.specs.declared.width.Width.{Width}
use Rattle.meaning.specs.Holding.{HoldsProgram}
use Rattle.machine.specs.Moments.{Seen}

-- the names are the program's, and their cells hold values of their kinds
pub record Suits (width : Width) (p : Program) (m : Seen) : Type 0 where
  pub names : m.names ≡ p.declarations
  pub holds : HoldsProgram (fortran90 width) p m.store
