use Rattle.std.proofs.Common.{List}
use Rattle.f90_grammar.specs.Blocks as grammar
use Rattle.f90_blocks.specs.places.forms.Places.{IsPlacedOf}
use Rattle.f90_statement.specs.Views.{AreOf}
use Rattle.f90_read.proofs.OfSurroundings.JumpLaws.{IsBehind}
use Rattle.f90_read.proofs.surroundings.jumping.first_wrong_jump.Given as goal

abbrev pub invariant-loop-i : goal.invariant-loop-i
invariant-loop-i l = (ps : List grammar.Placed) → AreOf IsPlacedOf l.text ps → IsBehind ps l.ahead l.found l.i
