use Rattle.std.proofs.Common.{◌≡◌, List, ◌++◌, map, drop}
use Rattle.tree.specs.View as view
use Rattle.f77_grammar.specs.program.Uses.{Use77}
use Rattle.f77_grammar.specs.syntax.Views.{text_of}
use Rattle.f77_names.specs.constants.Constants.{store_of}
use Rattle.f77_names.specs.constants.Declarations.{AreFacts, HaveDimensions, narrow_declarations}
use Rattle.f77_names.proofs.constants.constants.Constants.declare.Given as goal

abbrev pub invariant-loop-name : goal.invariant-loop-name
invariant-loop-name l = record {
  dimensions : HaveDimensions l.declarations;
  declared : (us : List Use77) → AreFacts l.names us
      → narrow_declarations l.self.width us (store_of l.self) (text_of l.text) l.variables
      ≡ map view.declaration_of l.declarations ++ narrow_declarations l.self.width us (store_of l.self) (text_of l.text) (drop l.name-index l.variables);
}
