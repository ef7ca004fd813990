use Rattle.std.proofs.Common.{List}
use Rattle.tree.specs.Plain.{Declaration}
use Rattle.f90_blocks.specs.places.forms.Places.{IsPlacedOf}
use Rattle.f90_grammar.specs.Blocks as grammar
use Rattle.f90_grammar.specs.Suited.{Suits}
use Rattle.f90_statement.specs.Views.{AreOf}
use Rattle.f90_read.specs.f90_suits.Ready.{AreReady, HoldsOfAll}
use Rattle.f90_read.proofs.F90Suits.Texts.{TreesUpTo}
use Rattle.f90_read.proofs.f90_suits.treed.trees.Given as goal

abbrev pub invariant-adding : goal.invariant-adding
invariant-adding l = (ps : List grammar.Placed) (ds : List Declaration) → AreOf IsPlacedOf l.text ps
    → AreReady l.functions ds ps → HoldsOfAll (Suits ds) ps
    → TreesUpTo ds l.text ps l.made l.placed-index
