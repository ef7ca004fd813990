use Rattle.std.proofs.Common.{◌≡◌, ◌+◌, ◌≤◌, length, drop}
use Rattle.f77_grammar.specs.program.Text.{places_from}
use Rattle.f77_grammar.specs.program.Nesting.{is_left_open}
use Rattle.f77_grammar.specs.syntax.First.{index_from}
use Rattle.f77_structure.specs.Forms.{pending}
use Rattle.f77_grammar.specs.syntax.Views.{text_of}
use Rattle.f77_grammar.specs.syntax.Walk.{passed}
use Rattle.f77_structure.proofs.nesting.left_open.Given as goal

abbrev pub invariant-loop-i : goal.invariant-loop-i
invariant-loop-i l = record {
  within : l.i ≤ length l.text;
  few : l.pending + l.i ≤ length l.text;
  pending : l.pending ≡ pending (drop l.i (text_of l.text));
  found : l.found ≡ index_from is_left_open l.i (places_from (passed (text_of l.text) l.i) (drop l.i (text_of l.text)));
}

abbrev pub decreases-loop-i : goal.decreases-loop-i
decreases-loop-i l = l.i
