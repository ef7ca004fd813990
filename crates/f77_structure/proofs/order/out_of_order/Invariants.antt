use Rattle.std.proofs.Common.{◌≡◌}
use Rattle.std.specs.List.{list_any}
use Rattle.f77_grammar.specs.Statement77.{Labelled}
use Rattle.f77_grammar.specs.program.Order.{is_out_of_order, is_executable77, follows_title}
use Rattle.f77_grammar.specs.syntax.Views.{text_of}
use Rattle.f77_grammar.specs.syntax.Walk.{passed, IsSearched}
use Rattle.f77_structure.proofs.order.out_of_order.Given as goal

abbrev pub invariant-loop-i : goal.invariant-loop-i
invariant-loop-i l = record {
  searched : IsSearched is_out_of_order (text_of l.text) l.i;
  more : l.more ≡ list_any (λ (x : Labelled). follows_title x.statement) (passed (text_of l.text) l.i);
  executable : l.executable ≡ list_any (λ (x : Labelled). is_executable77 x.statement) (passed (text_of l.text) l.i);
}
