use Rattle.std.proofs.Common.{◌≡◌, List, take}
use Rattle.f90_grammar.specs.Blocks as grammar
use Rattle.f90_grammar.specs.Declared.{declarations_of}
use Rattle.f90_blocks.specs.places.forms.Places.{IsPlacedOf}
use Rattle.f90_statement.specs.Views.{AreOf}
use Rattle.f90_names.specs.kinds.declarations.Bounds.{all_elements}
use Rattle.meaning.specs.element_counts.Counts.{capped}
use Rattle.f90_names.proofs.kinds.OfDeclarations.PlaceLaws.{Unmet}
use Rattle.f90_names.proofs.kinds.OfDeclarations.SizeLaws.{Narrow, HasManyElements}
use Rattle.f90_names.proofs.kinds.declarations.limits.first_beyond_elements.Given as goal

abbrev pub invariant-loop-i : goal.invariant-loop-i
invariant-loop-i l = record {
  counted : (ps : List grammar.Placed) → AreOf IsPlacedOf (take l.i l.text) ps → Narrow ps
      → l.count ≡ capped (all_elements (declarations_of ps));
  unmet : (ps : List grammar.Placed) → AreOf IsPlacedOf l.text ps → Narrow ps → Unmet ps HasManyElements l.i;
}
