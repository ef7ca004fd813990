-- What was made so far stands in the place of the statements so far.
use Rattle.std.proofs.Common.{◌≡◌, map}
use Rattle.tree.specs.View.{statement_of, tested_of}
use Rattle.index_split.specs.Filled.{filled_each, filled_list, used_each, used_list}
use Rattle.index_split.proofs.filling.Filling.+filling.Given as goal

abbrev pub invariant-stmts-loop-stmt : goal.invariant-stmts-loop-stmt
invariant-stmts-loop-stmt l = record {
  made : map statement_of l.made ≡ filled_list l.self.answers.now l.initial.at (map statement_of l.yielded);
  at : l.at ≡ used_list l.self.answers.now l.initial.at (map statement_of l.yielded);
}

abbrev pub invariant-arms-loop-arm : goal.invariant-arms-loop-arm
invariant-arms-loop-arm l = record {
  made : map tested_of l.made ≡ filled_each l.self.answers.now l.initial.at (map tested_of l.yielded);
  at : l.at ≡ used_each l.self.answers.now l.initial.at (map tested_of l.yielded);
}
