use Rattle.std.proofs.Common.{List}
use Rattle.tree.specs.Plain.{Declaration}
use Rattle.f90_names.specs.kinds.declarations.Names.{AreNamesOf}
use Rattle.f90_blocks.specs.places.forms.Places.{IsPlacedOf}
use Rattle.f90_grammar.specs.Blocks as grammar
use Rattle.f90_grammar.specs.Suited.{Suits}
use Rattle.f90_statement.specs.Views.{AreOf}
use Rattle.f90_read.specs.f90_suits.Ready.{AreReady}
use Rattle.f90_read.proofs.F90Suits.Walks.{AreGood}
use Rattle.f90_read.proofs.f90_suits.suited.first_unsuited.Given as goal

abbrev pub invariant-loop-place : goal.invariant-loop-place
invariant-loop-place l =
    (ps : List grammar.Placed) (ds : List Declaration) → AreOf IsPlacedOf l.text ps → AreNamesOf l.names ds
    → AreReady l.functions ds ps
    → AreGood ps (Suits ds) l.place
