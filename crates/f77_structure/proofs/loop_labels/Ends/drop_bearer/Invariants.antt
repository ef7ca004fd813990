use Rattle.std.proofs.Common.{◌≡◌, ◌≤◌, List, length}
use Rattle.f77_grammar.specs.Statement77.{Labelled}
use Rattle.f77_structure.specs.LoopLabels.{AreWaiting}
use Rattle.f77_structure.proofs.LoopLabelLaws.{ArePassed}
use Rattle.f77_structure.proofs.loop_labels.Ends.drop_bearer.Given as goal

abbrev pub invariant-loop-i : goal.invariant-loop-i
invariant-loop-i l = record {
  within : l.i ≤ length l.self.waiting.items;
  still : l.self.waiting.items ≡ l.initial.self.waiting.items;
  passed : (xs : List Labelled) → AreWaiting l.initial.self xs → ArePassed l.label xs l.i;
}

abbrev pub decreases-loop-i : goal.decreases-loop-i
decreases-loop-i l = l.i
