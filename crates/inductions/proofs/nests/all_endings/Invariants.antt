use Rattle.std.proofs.Common.{◌≡◌, map, take}
use Rattle.tree.specs.View.{statement_of}
use Rattle.inductions.specs.Ends.{induction_ending}
use Rattle.inductions.proofs.nests.all_endings.Given as goal

abbrev pub invariant-loop-induction : goal.invariant-loop-induction
invariant-loop-induction l =
    map statement_of l.stmts.items ≡ map (induction_ending l.nest.symbols l.nest.line l.loops.trip) (take l.induction-index l.induction-items)
