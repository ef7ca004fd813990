use Rattle.f77_laws.proofs.trees.Trees as trees
use Rattle.f77_laws.proofs.trees.WellNested as nested
use Rattle.f77_laws.proofs.trees.laws.statements_form_one_tree.Goals as goal

pub returns-clause-one_block : goal.returns-clause-one_block
returns-clause-one_block c = trees.one_block

pub returns-clause-one_tree : goal.returns-clause-one_tree
returns-clause-one_tree c = trees.one_tree

pub returns-clause-some_tree : goal.returns-clause-some_tree
returns-clause-some_tree c = trees.some_tree

pub returns-clause-same : goal.returns-clause-same
returns-clause-same c = trees.trees_are_one

pub returns-clause-read : goal.returns-clause-read
returns-clause-read c = trees.read_is_computed

pub returns-clause-nested : goal.returns-clause-nested
returns-clause-nested c = nested.nested_form_block
