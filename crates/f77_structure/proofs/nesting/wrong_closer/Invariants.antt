use Rattle.std.proofs.Common.{◌≡◌, ℕ}
use Rattle.f77_grammar.specs.program.Nesting.{is_closed_wrongly}
use Rattle.f77_structure.specs.LabelPlaces.{place_of}
use Rattle.f77_structure.specs.Openings.{frames, loops_in, frames_of, loops_of, first_do}
use Rattle.f77_grammar.specs.syntax.Views.{text_of}
use Rattle.f77_grammar.specs.syntax.Walk.{passed, IsSearched}
use Rattle.f77_structure.proofs.nesting.wrong_closer.Given as goal

abbrev pub invariant-loop-i : goal.invariant-loop-i
invariant-loop-i l = record {
  searched : IsSearched is_closed_wrongly (text_of l.text) l.i;
  ifs : frames l.openings ≡ frames_of (passed (text_of l.text) l.i);
  loops : loops_in l.openings ≡ loops_of (place_of l.ends) (passed (text_of l.text) l.i);
  firsts : (n : ℕ) → place_of l.firsts n ≡ first_do (passed (text_of l.text) l.i) n;
}
