-- What was made so far stands in the place of the statements so far.
use Rattle.std.proofs.Common.{◌≡◌, ◌++◌, map}
use Rattle.std.specs.List.{flat_map}
use Rattle.tree.specs.View.{statement_of, tested_of}
use Rattle.reductions.specs.Reduced.{done_in, done_in_arm, reduced, reduced_arm}
use Rattle.reductions.specs.View.{context_in}
use Rattle.reductions.proofs.finding.Context.+reducing.Given as goal

abbrev pub invariant-reduce_statements-loop-stmt : goal.invariant-reduce_statements-loop-stmt
invariant-reduce_statements-loop-stmt l = record {
  made : map statement_of l.made ≡ map (reduced (context_in l.self)) (map statement_of l.yielded);
  done : l.done ≡ l.initial.done ++ flat_map (done_in (context_in l.self)) (map statement_of l.yielded);
}

abbrev pub invariant-reduce_arms-loop-arm : goal.invariant-reduce_arms-loop-arm
invariant-reduce_arms-loop-arm l = record {
  made : map tested_of l.made ≡ map (reduced_arm (context_in l.self)) (map tested_of l.yielded);
  done : l.done ≡ l.initial.done ++ flat_map (done_in_arm (context_in l.self)) (map tested_of l.yielded);
}
