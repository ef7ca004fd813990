-- What the range of INTEGER changes, and what it doesn't.
use Rattle.std.specs.Prelude.{◌≡◌, ℕ, ◌≤◌}
use Rattle.tree.specs.Plain.{Program, Expression}
use Rattle.tree.specs.declared.width.Width.{Width}
use Rattle.tree.specs.declared.width.Width.TheVariants.{Plain}
use Rattle.meaning.specs.Dialect.{Dialect, fortran77}
use Rattle.meaning.specs.Profile77.{IsProgram77}
use Rattle.meaning.specs.Store.{Store}
use Rattle.meaning.specs.Value.{value_of}

-- a program of a profile is one of the profile with a wider range
abbrev pub ProgramWidens : Type 0
ProgramWidens = (d e : Dialect) (p : Program) → d.bits ≤ e.bits → IsProgram77 d p → IsProgram77 e p

-- where there are no arrays as values, the range has no part in the value of an expression
abbrev pub ValueHasNoWidth : Type 0
ValueHasNoWidth = (w : Width) (e : Expression) (s : Store) → value_of (fortran77 w) e s ≡ value_of (fortran77 Plain) e s
