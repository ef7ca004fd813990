use Rattle.std.proofs.Common.{◌≡◌, ℕ, ◌≤◌, length}
use Rattle.std.specs.List.{filter}
use Rattle.f77_grammar.specs.program.Limits.{has_many_blocks}
use Rattle.f77_structure.specs.LabelPlaces.{place_of}
use Rattle.f77_structure.specs.jumps.Blocks.{depth, lasts, lasting}
use Rattle.f77_grammar.specs.syntax.Views.{text_of}
use Rattle.f77_grammar.specs.syntax.Walk.{passed, IsSearched}
use Rattle.f77_structure.proofs.jumps.blocks.many_blocks.Given as goal

abbrev pub invariant-loop-i : goal.invariant-loop-i
invariant-loop-i l = record {
  searched : IsSearched has_many_blocks (text_of l.text) l.i;
  few_ifs : l.open_blocks.ifs ≤ l.i;
  few_loops : length l.open_blocks.loop_ends.items ≤ l.i;
  ifs : l.open_blocks.ifs ≡ depth (passed (text_of l.text) l.i);
  loops : (j : ℕ) → l.i ≤ j → lasting j l.open_blocks.loop_ends.items ≡ length (filter (lasts (place_of l.ends) j) (passed (text_of l.text) l.i));
}
