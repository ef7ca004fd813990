use Rattle.std.proofs.Common.{◌≡◌, List, map, take}
use Rattle.std.specs.List.{AllByRecursion}
use Rattle.tree.specs.View.{declaration_of}
use Rattle.f90_grammar.specs.Blocks as grammar
use Rattle.f90_grammar.specs.Bounds.{HasBounds}
use Rattle.f90_grammar.specs.Declared.{declarations_of}
use Rattle.f90_blocks.specs.places.forms.Places.{IsPlacedOf}
use Rattle.f90_statement.specs.Views.{AreOf}
use Rattle.f90_names.proofs.kinds.declarations.declaring.as_written.Given as goal

abbrev pub invariant-loop-placed : goal.invariant-loop-placed
invariant-loop-placed l = record {
  made : (ps : List grammar.Placed) → AreOf IsPlacedOf (take l.placed-index l.text) ps
      → AllByRecursion HasBounds (declarations_of ps) → map declaration_of l.all ≡ declarations_of ps;
}
