use Rattle.std.proofs.Common.{Option, subst}
use Rattle.f90_blocks.specs.statement_trees.Results.{Gives}
use Rattle.f90_blocks.specs.declared.statement_trees.nodes.StatementTree.{StatementTree}
use Rattle.f90_trees.specs.Hiding.{function_in}
use Rattle.f90_read.proofs.F90Suits.Texts.{known_of_tree, known_of_none}
use Rattle.f90_read.proofs.f90_suits.known.is_known.Goals as goal

pub returns-in-Some : goal.returns-in-Some
returns-in-Some c p ds is n of ready =
    known_of_tree c.args.functions.now ds of p ready c.in-Some.tree c.knows_tree-known.result
    (subst (λ (t : Option StatementTree). Gives (function_in c.args.functions.now) p t) c.in-Some.is
    (c.in_ok-tree.ensures.found p is ready.marked))
    (c.knows_tree-known.ensures ds n)

pub returns-in-None : goal.returns-in-None
returns-in-None c p ds is n of ready =
    known_of_none c.args.functions.now ds of p ready c.is_executable.result
    (subst (λ (t : Option StatementTree). Gives (function_in c.args.functions.now) p t) c.in-None.is
    (c.in_ok-tree.ensures.found p is ready.marked))
    (c.is_executable.ensures p.form is.is)
