use Rattle.std.proofs.Common.{◌≡◌, ◌≤◌, length, drop}
use Rattle.f77_laws.specs.trees.Steps as steps
use Rattle.f77_tree.specs.Parts.{known_uses, known_store}
use Rattle.f77_tree.specs.Rests.{rest_of}
use Rattle.f77_grammar.specs.syntax.Views.{text_of}
use Rattle.f77_tree.proofs.begin.rest_of_text.Given as goal

abbrev pub invariant-loop-i : goal.invariant-loop-i
invariant-loop-i l = record {
  within : l.i ≤ length l.text;
  rest : rest_of l.rest ≡ steps.rest_from (known_uses l.resolver) (known_store l.resolver) l.targets.list.items (drop l.i (text_of l.text));
}

abbrev pub decreases-loop-i : goal.decreases-loop-i
decreases-loop-i l = l.i
