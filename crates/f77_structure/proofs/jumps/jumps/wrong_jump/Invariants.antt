use Rattle.std.proofs.Common.{◌≡◌, ℕ, ◌≤◌, length, drop}
use Rattle.f77_grammar.specs.program.Text.{places_from}
use Rattle.f77_grammar.specs.program.Jumps.{has_wrong_jump}
use Rattle.f77_grammar.specs.syntax.First.{index_from}
use Rattle.f77_grammar.specs.syntax.Views.{text_of}
use Rattle.f77_grammar.specs.syntax.Walk.{passed}
use Rattle.f77_structure.specs.LabelPlaces.{place_of}
use Rattle.f77_structure.specs.jumps.LabelTargets.{target_in}
use Rattle.f77_structure.specs.jumps.Targets.{first_target}
use Rattle.f77_structure.proofs.jumps.jumps.wrong_jump.Given as goal

abbrev pub invariant-loop-i : goal.invariant-loop-i
invariant-loop-i l = record {
  within : l.i ≤ length l.text;
  behind : (n : ℕ) → target_in l.behind n ≡ first_target (place_of l.ends) (passed (text_of l.text) l.i) (drop l.i (text_of l.text)) n;
  found : l.found ≡ index_from has_wrong_jump l.i (places_from (passed (text_of l.text) l.i) (drop l.i (text_of l.text)));
}

abbrev pub decreases-loop-i : goal.decreases-loop-i
decreases-loop-i l = l.i
