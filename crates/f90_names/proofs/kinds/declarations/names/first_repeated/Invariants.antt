use Rattle.std.proofs.Common.{List, IsTrue, take}
use Rattle.f90_grammar.specs.Blocks as grammar
use Rattle.f90_grammar.specs.Declared.{declares_again}
use Rattle.f90_grammar.specs.Order.{Place90}
use Rattle.f90_blocks.specs.places.forms.Places.{IsPlacedOf}
use Rattle.f90_statement.specs.Views.{AreOf}
use Rattle.f90_names.specs.kinds.declarations.Entries.{Knows}
use Rattle.f90_names.proofs.kinds.OfDeclarations.EntryLaws.{entries_of}
use Rattle.f90_names.proofs.kinds.OfDeclarations.PlaceLaws.{Unmet}
use Rattle.f90_names.proofs.kinds.declarations.names.first_repeated.Given as goal

abbrev pub invariant-loop-i : goal.invariant-loop-i
invariant-loop-i l = record {
  knows : Knows l.names (entries_of (take l.i l.text));
  unmet : (ps : List grammar.Placed) → AreOf IsPlacedOf l.text ps
      → Unmet ps (λ (p : Place90). IsTrue (declares_again p.before p.here.form)) l.i;
}
