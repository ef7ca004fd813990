use Rattle.std.proofs.Common.{◌≡◌, ◌+◌, List, length, take}
use Rattle.f90_grammar.specs.Blocks as grammar
use Rattle.f90_grammar.specs.Bounds.{HasManyNames}
use Rattle.f90_grammar.specs.Declared.{declarations_of}
use Rattle.f90_blocks.specs.places.forms.Places.{IsPlacedOf}
use Rattle.f90_statement.specs.Views.{AreOf}
use Rattle.f90_names.proofs.kinds.OfDeclarations.PlaceLaws.{Unmet}
use Rattle.f90_names.proofs.kinds.declarations.limits.first_beyond_names.Given as goal

abbrev pub invariant-loop-i : goal.invariant-loop-i
invariant-loop-i l = record {
  left : (ps : List grammar.Placed) → AreOf IsPlacedOf (take l.i l.text) ps
      → l.left + length (declarations_of ps) ≡ 100000;
  unmet : (ps : List grammar.Placed) → AreOf IsPlacedOf l.text ps → Unmet ps HasManyNames l.i;
}
