-- What a run of a worked program comes to.
use Rattle.std.specs.Prelude.{◌≡◌, ℕ, List, Some}
use Rattle.tree.specs.Plain.{Program}
use Rattle.meaning.specs.Array.{array_run}
use Rattle.tree.specs.declared.width.Width.TheVariants.{Plain}
use Rattle.meaning.specs.Sequential.{ending}
use Rattle.meaning.specs.declared.End.{End}

-- on this input it writes this, ends so, and has taken so many steps
pub record Comes (p : Program) (input written : List ℕ) (last : End) (steps : ℕ) : Type 0 where
  pub written_is : (array_run Plain p input).written ≡ written
  pub ending_is : ending (array_run Plain p input) ≡ Some last
  pub steps_are : (array_run Plain p input).steps ≡ steps
