-- What is known of the statements of a program.
use Rattle.std.specs.Prelude.{◌≡◌, List}
use Rattle.meaning.specs.Dialect.{fortran77}
use Rattle.f77_grammar.specs.Statement77.{Labelled}
use Rattle.f77_grammar.specs.program.Uses.{uses_in_text}
use Rattle.f77_grammar.specs.program.Limits.{constants_of}
use Rattle.f77_names.specs.UsesView.{listed}
use Rattle.f77_structure.specs.LabelPlaces.{AreEndsIn}
use Rattle.f77_names.specs.constants.Constants.{AreValues}
use Rattle.f77_checks.specs.declared.known.Known.{Known}

-- it is what these statements say, and no others
pub record IsKnownOf (known : Known) (text : List Labelled) : Type 0 where
  pub names : listed known.names.uses ≡ uses_in_text text
  pub ends : AreEndsIn known.ends text
  pub constants : AreValues known.constants (constants_of (fortran77 known.constants.width) text)
