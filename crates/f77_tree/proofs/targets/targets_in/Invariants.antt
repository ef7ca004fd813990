use Rattle.std.proofs.Common.{◌≡◌, ◌++◌, drop}
use Rattle.f77_grammar.specs.program.Tree as tree
use Rattle.f77_grammar.specs.syntax.Views.{text_of}
use Rattle.f77_tree.proofs.targets.targets_in.Given as goal

abbrev pub invariant-loop-statement : goal.invariant-loop-statement
invariant-loop-statement l = tree.targets (text_of l.text) ≡ l.list.items ++ tree.targets (drop l.statement-index (text_of l.text))
