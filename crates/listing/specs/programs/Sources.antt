-- What is found in programs of FORTRAN 77, and the nests with loops from 1 by 1 that are made of it.
use Rattle.std.specs.Prelude.{◌≡◌, Some, Contains}
use Rattle.tree.specs.Plain.{Program}
use Rattle.meaning.specs.Dialect.{fortran77}
use Rattle.tree.specs.declared.width.Width.{Width}
use Rattle.meaning.specs.Profile77.{IsProgram77}
use Rattle.find_nests.specs.Found.{Found, InNest, found_in}
use Rattle.nest.specs.Plain.{Nest}
use Rattle.normal_loops.specs.Normalised.{normalised}

pub record IsFoundInSource (width : Width) (f : Found) : Type 0 where
  pub program : Program
  pub profile : IsProgram77 (fortran77 width) program
  pub among : Contains (found_in program) f

abbrev pub IsNestOfSource : (width : Width) → Nest → Type 0
IsNestOfSource width n = IsFoundInSource width (InNest n)

-- what all further passes begin with
pub record IsNormalOfSource (width : Width) (m : Nest) : Type 0 where
  pub nest : Nest
  pub source : IsNestOfSource width nest
  pub made : normalised nest ≡ Some m
