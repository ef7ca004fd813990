use Rattle.std.proofs.Common.{List}
use Rattle.f90_grammar.specs.Blocks as grammar
use Rattle.f90_blocks.specs.places.forms.Places.{IsPlacedOf}
use Rattle.f90_statement.specs.Views.{AreOf}
use Rattle.f90_names.proofs.kinds.OfDeclarations.PlaceLaws.{Unmet}
use Rattle.f90_names.proofs.kinds.OfDeclarations.OrderLaws.{IsBeyond}
use Rattle.f90_names.proofs.kinds.declarations.limits.first_beyond_bounds.Given as goal

abbrev pub invariant-loop-i : goal.invariant-loop-i
invariant-loop-i l = record { unmet : (ps : List grammar.Placed) → AreOf IsPlacedOf l.text ps → Unmet ps IsBeyond l.i }
