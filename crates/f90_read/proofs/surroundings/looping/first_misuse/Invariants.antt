use Rattle.std.proofs.Common.{List}
use Rattle.f90_grammar.specs.Blocks as grammar
use Rattle.f90_blocks.specs.places.forms.Places.{IsPlacedOf}
use Rattle.f90_statement.specs.Views.{AreOf}
use Rattle.f90_read.specs.surroundings.Lists.{scalar_in}
use Rattle.f90_read.proofs.OfSurroundings.LoopLaws.{IsPassed}
use Rattle.f90_read.proofs.surroundings.looping.first_misuse.Given as goal

abbrev pub invariant-loop-i : goal.invariant-loop-i
invariant-loop-i l = (ps : List grammar.Placed) → AreOf IsPlacedOf l.text ps → IsPassed (scalar_in l.names) ps l.blocks l.i
