use Rattle.std.proofs.Common.{◌≡◌, ℕ, List}
use Rattle.f77_grammar.specs.program.Uses as plain
use Rattle.f77_grammar.specs.program.DoVariables.{has_wrong_do_variable}
use Rattle.f77_grammar.specs.syntax.Views.{text_of}
use Rattle.f77_grammar.specs.syntax.Walk.{passed, IsSearched}
use Rattle.f77_structure.specs.LabelPlaces.{place_of}
use Rattle.f77_names.specs.NameFacts.{nothing_known, facts_of, facts_in}
use Rattle.f77_structure.specs.jumps.LoopVariables.{last_in, last_of}
use Rattle.f77_structure.proofs.jumps.do_variables.wrong_do_variable.Given as goal

abbrev pub invariant-loop-i : goal.invariant-loop-i
invariant-loop-i l = record {
  searched : IsSearched (has_wrong_do_variable (plain.uses_in_text (text_of l.text))) (text_of l.text) l.i;
  known : (y : List ℕ) → facts_in l.variables.names.now y ≡ facts_of nothing_known (plain.uses_in_text (text_of l.text)) y;
  lasts : (y : List ℕ) → last_in l.variables y ≡ last_of (place_of l.ends) (passed (text_of l.text) l.i) y;
}
