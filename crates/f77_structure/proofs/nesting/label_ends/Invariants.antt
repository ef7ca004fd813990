use Rattle.std.proofs.Common.{◌≡◌, ℕ}
use Rattle.f77_structure.specs.LabelPlaces.{place_of}
use Rattle.f77_structure.specs.Openings.{last_with}
use Rattle.f77_grammar.specs.syntax.Views.{text_of}
use Rattle.f77_grammar.specs.syntax.Walk.{passed}
use Rattle.f77_structure.proofs.nesting.label_ends.Given as goal

abbrev pub invariant-loop-i : goal.invariant-loop-i
invariant-loop-i l = record { places : (n : ℕ) → place_of l.ends n ≡ last_with (passed (text_of l.text) l.i) n }
