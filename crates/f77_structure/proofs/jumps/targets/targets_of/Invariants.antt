use Rattle.std.proofs.Common.{◌≡◌, [], ◌++◌, drop}
use Rattle.f77_structure.specs.LabelPlaces.{place_of}
use Rattle.f77_structure.specs.Openings.{loops_in, loops_of}
use Rattle.f77_grammar.specs.syntax.Views.{text_of}
use Rattle.f77_grammar.specs.syntax.Walk.{passed}
use Rattle.f77_structure.specs.jumps.Targets.{arms_in, arms_of, targets_of}
use Rattle.f77_structure.proofs.jumps.targets.targets_of.Given as goal

abbrev pub invariant-loop-i : goal.invariant-loop-i
invariant-loop-i l = record {
  built : l.targets.items ++ targets_of (place_of l.ends) (passed (text_of l.text) l.i) (drop l.i (text_of l.text)) ≡ targets_of (place_of l.ends) [] (text_of l.text);
  arms : arms_in l.arms ≡ arms_of (passed (text_of l.text) l.i);
  loops : loops_in l.openings ≡ loops_of (place_of l.ends) (passed (text_of l.text) l.i);
}
